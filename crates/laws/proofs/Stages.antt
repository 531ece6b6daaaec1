-- What a stage of the fold has, and how a row leads from one stage to the next. Of the vertex that is open last, C is what reaches it and D what it reaches; what is put on the stack
-- while a row is gone through belongs to the vertex whose row it is.
use mathlib.Core.Bool.{true, false≢true}
use mathlib.Core.Logic.{◌⊎◌, inl, inr, ◌↔◌}
use mathlib.Core.Path.{◌≡◌, sym, ap, ◌∙◌, subst}
use mathlib.Core.List.{List, [], ◌∷◌, ◌++◌, append_assoc, append-nil}
use Prim.Native.Nat.{ℕ, suc, ◌≤◌}
use native.Mathlib.Omega.{arith}
use lib.ListN.{length}
use Rattle.lineage.specs.Lists.{among, joined, position}
use Rattle.laws.specs.Leads.{Leads, Mutual}
use Rattle.laws.specs.OnePass.{Stage}
use Rattle.laws.specs.Rising.{Distinct}
use Rattle.laws.proofs.Lists.{here_at, there, in_cons, in_one, in_left, in_append, Kept}
use Rattle.laws.proofs.Positions.{position_left}
use Rattle.laws.proofs.Closed.{Closed}

-- the vertices that have a group
abbrev pub gone : Stage → List ℕ
gone s = joined s.groups

-- a vertex that has a group, or stands on the stack where its number is no less than the low
pub data Fine (s : Stage) (w : ℕ) : Type 0 where
  in_group : among w (gone s) ≡ true → Fine s w
  on_stack : among w s.stack ≡ true → s.low ≤ suc (position w s.stack) → Fine s w

-- more on the stack, more groups, a lesser low
pub record Grows (s t : Stage) (added : List ℕ) : Type 0 where
  pub stack_is : t.stack ≡ s.stack ++ added
  pub groups_kept : Kept (gone s) (gone t)
  pub lower : t.low ≤ s.low

pub fine_grows : {s t : Stage} {added : List ℕ} {w : ℕ} → Grows s t added → Fine s w → Fine t w
fine_grows {w = w} g (in_group i) = in_group (g.groups_kept w i)
fine_grows {s} {t} {added} {w} g (on_stack i l) =
    on_stack (rw g.stack_is (in_left w s.stack added i)) (rw (g.stack_is, position_left w s.stack added i) (omega (arith, g.lower)))

pub grows_then : {s t r : Stage} {a b : List ℕ} → Grows s t a → Grows t r b → Grows s r (a ++ b)
grows_then {s} {a = a} {b = b} g h = record {
  stack_is = h.stack_is ∙ ap (λ z. z ++ b) g.stack_is ∙ append_assoc s.stack a b;
  groups_kept = λ q i. h.groups_kept q (g.groups_kept q i);
  lower = omega (arith, g.lower, h.lower);
}

-- the low is what it was, or the number of something that is reached
pub data Found (D : ℕ → Type 0) (s t : Stage) : Type 0 where
  as_was : t.low ≡ s.low → Found D s t
  reached : (w : ℕ) → D w → among w t.stack ≡ true → suc (position w t.stack) ≡ t.low → Found D s t

pub found_then : {D : ℕ → Type 0} {s t r : Stage} {added : List ℕ} → Found D s t → Grows t r added → Found D t r → Found D s r
found_then (as_was e) g (as_was e') = as_was (e' ∙ e)
found_then {t = t} {r = r} {added = added} (reached w d i p) g (as_was e) =
    reached w d (rw g.stack_is (in_left w t.stack added i)) (ap (λ z. suc (position w z)) g.stack_is ∙ ap suc (position_left w t.stack added i) ∙ p ∙ sym e)
found_then f g (reached w d i p) = reached w d i p

module _ (next : ℕ → List ℕ) where
  -- each list holds exactly one group
  abbrev pub AllGroups : List (List ℕ) → Type 0
  AllGroups [] = Unit {0}
  AllGroups (t ∷ ts) = ((x : ℕ) × ((v : ℕ) → (among v t ≡ true) ↔ Mutual next x v)) × AllGroups ts

  -- what is seen stands on the stack or has a group, once; no edge leads out of the groups
  pub record Good (seen : List ℕ) (s : Stage) : Type 0 where
    pub known : (q : ℕ) → among q seen ≡ true → (among q s.stack ≡ true) ⊎ (among q (gone s) ≡ true)
    pub stack_seen : (q : ℕ) → among q s.stack ≡ true → among q seen ≡ true
    pub groups_seen : (q : ℕ) → among q (gone s) ≡ true → among q seen ≡ true
    pub shut : Closed next (gone s)
    pub right : AllGroups s.groups
    pub once : Distinct (s.stack ++ gone s)
    pub low_fits : s.low ≤ suc (length s.stack)

  -- C is what reaches the vertex that is open last, D what it reaches; `todo` is what is left of its row
  pub record Around (C D : ℕ → Type 0) (todo : List ℕ) (s : Stage) : Type 0 where
    pub all_up : (u : ℕ) → among u s.stack ≡ true → C u
    pub back : {u w : ℕ} → Leads next u w → C w → C u
    pub ahead : (u q : ℕ) → C u → among q todo ≡ true → Leads next u q
    pub onward : {u w : ℕ} → Leads next u w → D u → D w
    pub start : (q : ℕ) → among q todo ≡ true → D q

  -- a row is gone through
  pub record Through (C D : ℕ → Type 0) (row : List ℕ) (s t : Stage) : Type 0 where
    pub added : List ℕ
    pub grows : Grows s t added
    pub up : (u : ℕ) → among u added ≡ true → C u
    pub down : (u : ℕ) → among u added ≡ true → D u
    pub edges : (u w : ℕ) → among u added ≡ true → among w (next u) ≡ true → Fine t w
    pub tried : (q : ℕ) → among q row ≡ true → Fine t q
    pub found : Found D s t

module _ {next : ℕ → List ℕ} where
  -- a row's first vertex, then the others
  pub through_then :
      {C D : ℕ → Type 0} {p : ℕ} {todo : List ℕ} {s t r : Stage} → Through next C D (p ∷ []) s t → Through next C D todo t r → Through next C D (p ∷ todo) s r
  through_then {C} {D} {p} {todo} {s} {t} {r} a b = record {
    added = a.added ++ b.added;
    grows = grows_then a.grows b.grows;
    up = λ u i. elim (in_append u a.added b.added i) [ inl j ↦ a.up u j | inr j ↦ b.up u j ];
    down = λ u i. elim (in_append u a.added b.added i) [ inl j ↦ a.down u j | inr j ↦ b.down u j ];
    edges = λ u w i e. elim (in_append u a.added b.added i) [ inl j ↦ fine_grows b.grows (a.edges u w j e) | inr j ↦ b.edges u w j e ];
    tried = λ q i. elim (in_cons q p todo i) [ inl e ↦ fine_grows b.grows (a.tried q (here_at _ p [] e)) | inr j ↦ b.tried q j ];
    found = found_then a.found b.grows b.found;
  }

  -- nothing is put on the stack
  pub through_none :
      {C D : ℕ → Type 0} {p : ℕ} {s t : Stage} → t.stack ≡ s.stack → Kept (gone s) (gone t) → t.low ≤ s.low → Fine t p → Found D s t
      → Through next C D (p ∷ []) s t
  through_none {p = p} {s = s} {t = t} e k l fine found = record {
    added = [];
    grows = record { stack_is = e ∙ sym (append-nil s.stack); groups_kept = k; lower = l };
    up = λ u i. absurd (false≢true i);
    down = λ u i. absurd (false≢true i);
    edges = λ u w i h. absurd (false≢true i);
    tried = λ q i. subst (Fine t) (sym (in_one q p i)) fine;
    found = found;
  }

  pub around_rest : {C D : ℕ → Type 0} {p : ℕ} {todo : List ℕ} {s t : Stage} → Around next C D (p ∷ todo) s → Through next C D (p ∷ []) s t → Around next C D todo t
  around_rest {C} {D} {p} {todo} {s} {t} a b = record {
    all_up = λ u i. elim (in_append u s.stack b.added (rw b.grows.stack_is at i)) [ inl j ↦ a.all_up u j | inr j ↦ b.up u j ];
    back = a.back;
    ahead = λ u q c i. a.ahead u q c (there q p todo i);
    onward = a.onward;
    start = λ q i. a.start q (there q p todo i);
  }
