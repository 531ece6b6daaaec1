-- What the fold keeps. Of the vertex that is open last, C is what reaches it and D what it reaches. All on the stack reaches it. What is put on the stack below it is
-- reached by it; an edge from there leads into a group that is found, or to a place of the stack whose number is no less than the low; and the low is the number of something that
-- it reaches. So where the low is the vertex's own number when it is left, no edge leads out of what stands from there on but into groups: it is a group. Else
-- it reaches something that stands further down, and so all that is put on the stack reaches the vertex below.
use mathlib.Core.Bool.{Bool, true, false, false≢true}
use mathlib.Core.Logic.{◌⊎◌, inl, inr, ◌↔◌}
use mathlib.Core.Path.{◌≡◌, refl, sym, ap, ◌∙◌, subst}
use mathlib.Core.List.{List, [], ◌∷◌, ◌++◌, append_assoc, append-nil}
use Prim.Native.Nat.{ℕ, suc, ◌≤◌, ◌<◌}
use native.Mathlib.Decide.{dec_le}
use native.Mathlib.Omega.{arith}
use lib.Dec.{eqb}
use lib.ListN.{length, drop, length-append}
use lib.Seq.{drop-append_seam}
use borrow.Author.Tests.{eqb-true, eq-eqb}
use Rattle.lineage.specs.Lists.{among, position}
use Rattle.lineage.specs.Labels.{Forest, after}
use Rattle.laws.specs.Leads.{Leads, stay, step, Mutual}
use Rattle.laws.specs.Visits.{Visits, over, skip, enter}
use Rattle.laws.specs.OnePass.{Stage, lowered, opened, left_by, left, stage_after}
use Rattle.laws.specs.Rising.{Distinct}
use Rattle.laws.proofs.Tests.{clash, is_false}
use Rattle.laws.proofs.Lists.{here, here_at, there, in_cons, in_one, in_left, in_right, in_append}
use Rattle.laws.proofs.Positions.{position_past, position_low_in, position_high_in, position_none}
use Rattle.laws.proofs.Rising.{distinct_apart, distinct_right, distinct_between}
use Rattle.laws.proofs.Closed.{leads_on, Closed, stays}
use Rattle.laws.proofs.Stages.{gone, Fine, in_group, on_stack, Found, as_was, reached, Good, Around, Through, through_then, through_none, around_rest}

module _ {next : ℕ → List ℕ} where
  -- a seen vertex is come upon
  module _ {C D : ℕ → Type 0} {p : ℕ} {todo seen : List ℕ} (s : Stage) (good : Good next seen s) (around : Around next C D (p ∷ todo) s) (old : among p seen ≡ true) where
    pub good_past : Good next seen (lowered p s)
    good_past = record {
      known = good.known;
      stack_seen = good.stack_seen;
      groups_seen = good.groups_seen;
      shut = good.shut;
      right = good.right;
      once = good.once;
      low_fits = omega (arith, good.low_fits);
    }

    pub through_past : Through next C D (p ∷ []) s (lowered p s)
    through_past = through_none refl (λ q i. i) (omega arith) (fine (among p s.stack) refl (good.known p old)) (low_found (among p s.stack) refl)
      where
        fine : (t : Bool) → among p s.stack ≡ t → (among p s.stack ≡ true) ⊎ (among p (gone s) ≡ true) → Fine (lowered p s) p
        fine true e k = on_stack e (omega arith)
        fine false e (inl i) = clash i e
        fine false e (inr i) = in_group i

        low_found : (t : Bool) → among p s.stack ≡ t → Found D s (lowered p s)
        low_found true e = at (dec_le s.low (suc (position p s.stack)))
          where
            at : Dec (s.low ≤ suc (position p s.stack)) → Found D s (lowered p s)
            at (yes h) = as_was (omega arith)
            at (no h) = reached p (around.start p (here p todo)) e (omega arith)
        low_found false e = as_was (omega (arith, position_none p s.stack e, good.low_fits))

  -- an unseen vertex is entered
  module _ {C D : ℕ → Type 0} {p : ℕ} {todo seen : List ℕ} (s : Stage) (good : Good next seen s) (around : Around next C D (p ∷ todo) s) (new : among p seen ≡ false) where
    not_on : among p s.stack ≡ false
    not_on = is_false _ (λ i. clash (good.stack_seen p i) new)

    not_in : among p (gone s) ≡ false
    not_in = is_false _ (λ i. clash (good.groups_seen p i) new)

    pub good_in : Good next (p ∷ seen) (opened p s)
    good_in = record {
      known = λ q i. elim (in_cons q p seen i) [
        | inl e ↦ inl (in_right q s.stack (p ∷ []) (here_at _ p [] e))
        | inr j ↦ elim (good.known q j) [ inl k ↦ inl (in_left q s.stack (p ∷ []) k) | inr k ↦ inr k ]
      ];
      stack_seen = λ q i. elim (in_append q s.stack (p ∷ []) i) [
        | inl j ↦ there q p seen (good.stack_seen q j)
        | inr j ↦ here_at _ p seen (in_one q p j)
      ];
      groups_seen = λ q i. there q p seen (good.groups_seen q i);
      shut = good.shut;
      right = good.right;
      once = rw append_assoc (distinct_between p s.stack (gone s) good.once not_on not_in);
      low_fits = omega (arith, length-append s.stack (p ∷ []));
    }

    pub around_in : Around next (λ u. Leads next u p) (λ u. Leads next p u) (next p) (opened p s)
    around_in = record {
      all_up = λ u i. elim (in_append u s.stack (p ∷ []) i) [
        | inl j ↦ around.ahead u p (around.all_up u j) (here p todo)
        | inr j ↦ rw (in_one u p j) stay
      ];
      back = leads_on;
      ahead = λ u q l i. leads_on l (step i stay);
      onward = λ l d. leads_on d l;
      start = λ q i. step i stay;
    }

    -- and left
    module _ {seen' : List ℕ} (t : Stage) (good' : Good next seen' t) (through : Through next (λ u. Leads next u p) (λ u. Leads next p u) (next p) (opened p s) t) where
      abbrev own : List ℕ
      own = p ∷ through.added

      stack_is : t.stack ≡ s.stack ++ own
      stack_is = through.grows.stack_is ∙ append_assoc s.stack (p ∷ []) through.added

      still : (w : ℕ) → among w s.stack ≡ true → among w t.stack ≡ true
      still w i = rw stack_is (in_left w s.stack own i)

      -- an edge from there
      own_edges : (u w : ℕ) → among u own ≡ true → among w (next u) ≡ true → Fine t w
      own_edges u w i e = elim (in_cons u p through.added i) [ inl z ↦ through.tried w (rw z at e) | inr j ↦ through.edges u w j e ]

      own_mutual : (v : ℕ) → among v own ≡ true → Mutual next p v
      own_mutual v i = elim (in_cons v p through.added i) [ inl z ↦ rw z (stay, stay) | inr j ↦ (through.down v j, through.up v j) ]

      module _ (e : t.low ≡ suc (length s.stack)) where
        group_is : drop (length s.stack) t.stack ≡ own
        group_is = ap (drop (length s.stack)) stack_is ∙ drop-append_seam s.stack own

        here_once : Distinct (s.stack ++ (own ++ gone t))
        here_once = subst Distinct (ap (λ z. z ++ gone t) stack_is ∙ append_assoc s.stack own (gone t)) good'.once

        p_apart : among p (gone t) ≡ false
        p_apart = is_false _ (λ i. clash (here p through.added) (distinct_apart own (gone t) (distinct_right s.stack (own ++ gone t) here_once) p i))

        own_shut : Closed next (own ++ gone t)
        own_shut = record {
          inside = λ u w i h. elim (in_append u own (gone t) i) [
            | inl j ↦ at w (own_edges u w j h)
            | inr j ↦ in_right w own (gone t) (good'.shut.inside u w j h)
          ];
        }
          where
            at : (w : ℕ) → Fine t w → among w (own ++ gone t) ≡ true
            at w (in_group i) = in_right w own (gone t) i
            at w (on_stack i l) =
                in_left w own (gone t) (position_high_in w s.stack own (rw stack_is at i) (omega (arith, ap (position w) stack_is)))

        own_group : (v : ℕ) → (among v own ≡ true) ↔ Mutual next p v
        own_group v = (own_mutual v, λ m. at m (in_append v own (gone t) (stays own_shut m.0 (here p (through.added ++ gone t)))))
          where
            at : Mutual next p v → (among v own ≡ true) ⊎ (among v (gone t) ≡ true) → among v own ≡ true
            at m (inl i) = i
            at m (inr i) = clash (stays good'.shut m.1 i) p_apart

        pub good_group : Good next seen' (left_by true s t)
        good_group = rw group_is (record {
          known = λ q i. elim (good'.known q i) [
            | inl j ↦ elim (in_append q s.stack own (rw stack_is at j)) [ inl k ↦ inl k | inr k ↦ inr (in_left q own (gone t) k) ]
            | inr j ↦ inr (in_right q own (gone t) j)
          ];
          stack_seen = λ q i. good'.stack_seen q (still q i);
          groups_seen = λ q i. elim (in_append q own (gone t) i) [
            | inl j ↦ good'.stack_seen q (rw stack_is (in_right q s.stack own j))
            | inr j ↦ good'.groups_seen q j
          ];
          shut = own_shut;
          right = ((p, own_group), good'.right);
          once = here_once;
          low_fits = omega (arith, good.low_fits);
        })

        pub through_group : Through next C D (p ∷ []) s (left_by true s t)
        through_group = rw group_is (through_none refl (λ q i. in_right q own (gone t) (through.grows.groups_kept q i)) (omega arith)
            (in_group (here p (through.added ++ gone t))) (as_was (omega (arith, good.low_fits))))

      module _ (e : t.low ≡ suc (length s.stack) → ⊥) where
        deeper : t.low < suc (length s.stack)
        deeper = omega (arith, through.grows.lower)

        -- p reaches what stands further down
        low_there : (w : ℕ) × Leads next p w × (among w s.stack ≡ true) × (suc (position w t.stack) ≡ t.low)
        low_there = at through.found
          where
            at : Found (λ u. Leads next p u) (opened p s) t → (w : ℕ) × Leads next p w × (among w s.stack ≡ true) × (suc (position w t.stack) ≡ t.low)
            at (as_was z) = absurd (e z)
            at (reached w l i z) = (w, l, position_low_in w s.stack own (omega (arith, deeper, ap (position w) stack_is)), z)

        p_up : C p
        p_up = let (w, l, i, z) = low_there in around.back l (around.all_up w i)

        p_down : D p
        p_down = around.start p (here p todo)

        pub good_kept : Good next seen' (left_by false s t)
        good_kept = record {
          known = good'.known;
          stack_seen = good'.stack_seen;
          groups_seen = good'.groups_seen;
          shut = good'.shut;
          right = good'.right;
          once = good'.once;
          low_fits = omega (arith, good'.low_fits);
        }

        fine_kept : {w : ℕ} → Fine t w → Fine (left_by false s t) w
        fine_kept (in_group i) = in_group i
        fine_kept (on_stack i l) = on_stack i (omega arith)

        pub through_kept : Through next C D (p ∷ []) s (left_by false s t)
        through_kept = record {
          added = own;
          grows = record { stack_is = stack_is; groups_kept = through.grows.groups_kept; lower = omega arith };
          up = λ u i. around.back (own_mutual u i).1 p_up;
          down = λ u i. around.onward (own_mutual u i).0 p_down;
          edges = λ u w i h. fine_kept (own_edges u w i h);
          tried = λ q i. subst (Fine (left_by false s t)) (sym (in_one q p i)) p_fine;
          found = at (dec_le s.low t.low);
        }
          where
            p_fine : Fine (left_by false s t) p
            p_fine =
                on_stack (rw stack_is (in_right p s.stack own (here p through.added)))
                (omega (arith, deeper, ap (position p) stack_is, position_past p s.stack own not_on))

            at : Dec (s.low ≤ t.low) → Found D s (left_by false s t)
            at (yes h) = as_was (omega arith)
            at (no h) =
                let (w, l, i, z) = low_there in
                reached w (around.onward l p_down) (still w i) (z ∙ omega arith)

      pub left_by_lem : Good next seen' (left s t) × Through next C D (p ∷ []) s (left s t)
      left_by_lem = at (eqb t.low (suc (length s.stack))) refl
        where
          at : (b : Bool) → eqb t.low (suc (length s.stack)) ≡ b → Good next seen' (left_by b s t) × Through next C D (p ∷ []) s (left_by b s t)
          at true z = let e = eqb-true t.low (suc (length s.stack)) z in (good_group e, through_group e)
          at false z = let e : t.low ≡ suc (length s.stack) → ⊥ = λ h. clash (eq-eqb t.low (suc (length s.stack)) h) z in (good_kept e, through_kept e)

  -- so along a traversal
  pub folded :
      {todo seen : List ℕ} {f : Forest} (visits : Visits next todo seen f) (s : Stage) (C D : ℕ → Type 0) → Good next seen s → Around next C D todo s
      → Good next (after f seen) (stage_after visits s) × Through next C D todo s (stage_after visits s)
  folded over s C D good around = (
    good,
    record {
      added = [];
      grows = record { stack_is = sym (append-nil s.stack); groups_kept = λ q i. i; lower = omega arith };
      up = λ u i. absurd (false≢true i);
      down = λ u i. absurd (false≢true i);
      edges = λ u w i h. absurd (false≢true i);
      tried = λ q i. absurd (false≢true i);
      found = as_was refl;
    },
  )
  folded (skip {p = p} a r) s C D good around =
      let first = through_past s good around a in
      let (good', rest) = folded r (lowered p s) C D (good_past s good around a) (around_rest around first) in
      (good', through_then first rest)
  folded (enter {p = p} a r t) s C D good around =
      let o = opened p s in
      let (good₁, below) = folded r o (λ u. Leads next u p) (λ u. Leads next p u) (good_in s good around a) (around_in s good around a) in
      let (good₂, first) = left_by_lem s good around a (stage_after r o) good₁ below in
      let (good₃, rest) = folded t (left s (stage_after r o)) C D good₂ (around_rest around first) in
      (good₃, through_then first rest)
