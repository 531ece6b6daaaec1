-- Changed vertices treated one at a time. A record that is unknown or suspect afterwards is so whatever comes later, and one that is kept is still there to be turned;
-- so some vertices and then others come to all of them, in any order. With at least one vertex, calls one after the other leave what a call with all of them leaves.
use mathlib.Core.Bool.{Bool, true, false, ◌||◌, cond, or_assoc}
use mathlib.Core.Path.{◌≡◌, refl, sym, ap, ◌∙◌}
use mathlib.Core.List.{List, [], ◌∷◌, ◌++◌, append-nil, append_assoc}
use Prim.Native.Nat.{ℕ, ◌<◌}
use native.Mathlib.Nat.{not-suc-le-zero}
use lib.Dec.{leb}
use lib.ListN.{length}
use borrow.Author.Tests.{ltb-false}
use Rattle.lineage.specs.Lists.{any, among, cleared}
use Rattle.lineage.specs.Index.{Index}
use Rattle.lineage.specs.Stored.{counts_in}
use Rattle.lineage.specs.Calls.{any_applies, FormsTaken, words_in, contents_check}
use Rattle.laws.specs.Checks.{Pass}
use Rattle.laws.proofs.Checks.{stops_early}
use Rattle.laws.proofs.Lists.{here, there, any_in, in_any, any_none}
use Rattle.laws_same.proofs.Lineage.{tests_same}
use Rattle.numbers.proofs.Cleared.{cleared_long, cleared_twice}
use Rattle.rules_states.specs.Rules.{suspect, unknown, reaches_in, affected, state_after, each_state, states_after, rules_early, rules_checks, rules_marks, rules_work}
use Rattle.rules_states.specs.After.{SameMembers, Turning, OneByOne, none, next, Steady}
use Rattle.rules_states.proofs.States.{each_same}

any_append : (p : ℕ → Bool) (us vs : List ℕ) → any p (us ++ vs) ≡ (any p us || any p vs)
any_append p [] vs = refl
any_append p (u ∷ us) vs = rw (any_append p us vs) (sym (or_assoc (p u) (any p us) (any p vs)))

any_members : (p : ℕ → Bool) (us vs : List ℕ) → SameMembers us vs → any p us ≡ any p vs
any_members p us vs same =
    tests_same _ _ (
      (λ t. let (u, i, h) = in_any p us t in any_in p u vs (sym (same u) ∙ i) h),
      λ t. let (u, i, h) = in_any p vs t in any_in p u us (same u ∙ i) h,
    )

-- one state
module _ (I : Index) where
  pub state_joins : (us vs : List ℕ) (v s : ℕ) → state_after I (us ++ vs) v s ≡ state_after I vs v (state_after I us v s)
  unfolding state_after affected
  state_joins us vs v s = rw (any_append (λ u. reaches_in I u v) us vs) (at (leb (length I.names) v) (any (λ u. reaches_in I u v) us) (any (λ u. reaches_in I u v) vs))
    where
      at : (o a b : Bool) → cond o unknown (cond (a || b) suspect s) ≡ cond o unknown (cond b suspect (cond o unknown (cond a suspect s)))
      at true a b = refl
      at false true true = refl
      at false true false = refl
      at false false true = refl
      at false false false = refl

  pub state_members : (us vs : List ℕ) → SameMembers us vs → (v s : ℕ) → state_after I us v s ≡ state_after I vs v s
  unfolding state_after affected
  state_members us vs same v s = rw (any_members (λ u. reaches_in I u v) us vs same)

  -- the states of a table
  each_twice : (f g : ℕ → ℕ → ℕ) (vertices states : List ℕ) → each_state f vertices (each_state g vertices states) ≡ each_state (λ v s. f v (g v s)) vertices states
  each_twice f g [] states = refl
  each_twice f g (v ∷ vertices) [] = refl
  each_twice f g (v ∷ vertices) (s ∷ states) = ap (f v (g v s) ∷◌) (each_twice f g vertices states)

  pub states_steady : (vertices : List ℕ) → Steady (λ changed states. states_after I changed vertices states)
  unfolding states_after
  states_steady vertices = record {
    joins = λ us vs states. each_same _ _ vertices states (state_joins us vs) ∙ sym (each_twice (state_after I vs) (state_after I us) vertices states);
    members = λ us vs same states. each_same _ _ vertices states (state_members us vs same);
  }

-- Calls in sequence. One changed vertex of some that pass:
one_passes : (T : FormsTaken) (b changed : List ℕ) (marks work u : ℕ) → among u changed ≡ true → Pass (rules_checks T b changed marks work) → Pass (rules_checks T b (u ∷ []) marks work)
one_passes T b changed marks work u i p =
    let low : any (leb (counts_in b).n) (u ∷ []) ≡ false = rw (any_none (leb (counts_in b).n) changed p.1.1.1.1.1.0 u i) in
    (p.0, (p.1.0, (p.1.1.0, (p.1.1.1.0, (p.1.1.1.1.0, (low, (p.1.1.1.1.1.1.0, tt)))))))

-- marks below n are 0, and the needed words; the rest is as it was
abbrev Cleared : (b marks work marks' work' : List ℕ) → Type 0
Cleared b marks work marks' work' = (marks' ≡ cleared (counts_in b).n marks) × (work' ≡ cleared (words_in b) work)

module _
    {A : Type 0} {turn : List ℕ → A → A} {T : FormsTaken} {b : List ℕ} {Call : (changed marks work : List ℕ) → A → (marks' work' : List ℕ) → A → Type 0}
    (K : Turning turn T b Call)
  where
    -- a call of which no check applies
    done : (changed marks work : List ℕ) → Pass (rules_checks T b changed (length marks) (length work)) → {table t : A} {m w : List ℕ}
        → Call changed marks work table m w t → Cleared b marks work m w × (t ≡ turn changed table)
    unfolding rules_marks rules_work
    done changed marks work p call =
        let L = K.leaves call in
        let early : any_applies (rules_early T b changed (length marks) (length work)) ≡ false =
        stops_early (rules_early T b changed (length marks) (length work)) (contents_check b ∷ []) 7 p in
        ((L.leaves ∙ rw early refl, L.clears ∙ rw early refl), L.turns ∙ rw (stops_early (rules_checks T b changed (length marks) (length work)) [] 7 p) refl)

    module _ (S : Steady turn) (marks work changed : List ℕ) (p : Pass (rules_checks T b changed (length marks) (length work))) where
      -- marks and words that were cleared are as long as before, and cleared again they are the same
      same_long : {m w : List ℕ} → Cleared b marks work m w → (length m ≡ length marks) × (length w ≡ length work)
      same_long (em, ew) = (
        ap length em ∙ cleared_long (counts_in b).n marks (ltb-false (length marks) (counts_in b).n p.1.1.1.0),
        ap length ew ∙ cleared_long (words_in b) work (ltb-false (length work) (words_in b) p.1.1.1.1.0),
      )

      again : {m w m' w' : List ℕ} → Cleared b marks work m w → Cleared b m w m' w' → Cleared b marks work m' w'
      again (em, ew) (fm, fw) = (
        fm ∙ ap (cleared (counts_in b).n) em ∙ cleared_twice (counts_in b).n marks,
        fw ∙ ap (cleared (words_in b)) ew ∙ cleared_twice (words_in b) work,
      )

      one : {m w : List ℕ} → Cleared b marks work m w → (u : ℕ) → among u changed ≡ true → Pass (rules_checks T b (u ∷ []) (length m) (length w))
      one c u i = let (lm, lw) = same_long c in rw (lm, lw) (one_passes T b changed (length marks) (length work) u i p)

      -- the calls behind those of the vertices that are gone through
      on : {us m w m' w' : List ℕ} {t t' : A} (gone : List ℕ) (table : A) → Cleared b marks work m w → t ≡ turn gone table
          → ((u : ℕ) → among u us ≡ true → among u changed ≡ true) → OneByOne Call us m w t m' w' t' → Cleared b marks work m' w' × (t' ≡ turn (gone ++ us) table)
      on gone table c e low none = (c, rw append-nil e)
      on gone table c e low (next {u} {us} {marks = m} {work = w} L rest) =
          let (d, f) = done (u ∷ []) m w (one c u (low u (here u us))) L in
          let (c', e') = on (gone ++ (u ∷ [])) table (again c d) (f ∙ ap (turn (u ∷ [])) e ∙ sym (S.joins gone (u ∷ []) table)) (λ v i. low v (there v u us i)) rest in
          (c', e' ∙ rw (append_assoc gone (u ∷ []) us) refl)

      -- a call for each of at least one vertex, with the members of the changed ones, in any order
      pub one_by_one : {us m w m' w' : List ℕ} {table t t' : A} → 0 < length us → SameMembers us changed
          → OneByOne Call us marks work table m w t → Call changed marks work table m' w' t' → (m ≡ m') × ((w ≡ w') × (t ≡ t'))
      one_by_one some same none L = absurd (not-suc-le-zero some)
      one_by_one {table = table} some same (next {u} {us} F rest) L =
          let (c, e) = done (u ∷ []) marks work (one_passes T b changed (length marks) (length work) u (sym (same u) ∙ here u us) p) F in
          let ((em, ew), et) = on (u ∷ []) table c e (λ v i. sym (same v) ∙ there v u us i) rest in
          let ((fm, fw), ft) = done changed marks work p L in
          (em ∙ sym fm, (ew ∙ sym fw, et ∙ S.members (u ∷ us) changed same table ∙ sym ft))
