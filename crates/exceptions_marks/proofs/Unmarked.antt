-- A pass that only sets marks to 1 leaves every other mark as it was; so after the sweep from one group, on marks that were cleared, the mark of a group that is not
-- reached is 0.
use mathlib.Core.Bool.{Bool, true, false}
use mathlib.Core.Logic.{◌⊎◌, inl, inr}
use mathlib.Core.Path.{◌≡◌, refl, ◌∙◌}
use mathlib.Core.List.{List, [], ◌∷◌, map}
use Prim.Native.Nat.{ℕ, zero, suc, ◌<◌}
use native.Mathlib.Decide.{ℕ_discrete, dec_lt}
use native.Mathlib.Omega.{arith}
use lib.ListN.{length, get_or, set}
use lib.Seq.{get_or-set_same, get_or-set_other, set_out}
use borrow.Author.Tests.{eq-eqb}
use Rattle.lineage.specs.Lists.{cleared}
use Rattle.lineage.specs.Index.{Index}
use Rattle.laws.specs.Sound.{Sound}
use Rattle.laws.proofs.Tests.{clash}
use Rattle.laws.proofs.Grouped.{group_name}
use Rattle.numbers.specs.Marks.{mark_all}
use Rattle.numbers.proofs.Cleared.{cleared_at}
use Rattle.reach_sweep.specs.Sweep.{marked, row_marked, turn, swept}
use Rattle.reach_sweep.proofs.Turn.{turn_marked, turn_passed}
use Rattle.reach.specs.Marks.{first_labels, rank_in, mark_in, swept_in, reach_marks}

-- each mark afterwards is 1, or what it was
abbrev OnesOnly : List ℕ → List ℕ → Type 0
OnesOnly before after = (j : ℕ) → (get_or after j 0 ≡ 1) ⊎ (get_or after j 0 ≡ get_or before j 0)

ones_after : (a b c : List ℕ) → OnesOnly a b → OnesOnly b c → OnesOnly a c
ones_after a b c f g j =
    elim (g j) [
      | inl e ↦ inl e
      | inr e ↦ elim (f j) [ inl i ↦ inl (e ∙ i) | inr i ↦ inr (e ∙ i) ]
    ]

ones_set : (marks : List ℕ) (q : ℕ) → OnesOnly marks (set marks q 1)
ones_set marks q j =
    elim (ℕ_discrete j q) [
      | yes e ↦
          elim (dec_lt q (length marks)) [
            | yes l ↦ inl (rw e (get_or-set_same marks q 1 0 l))
            | no l ↦ inr (rw (set_out marks q 1 (omega arith)))
          ]
      | no e ↦ inr (get_or-set_other marks q j 1 0 e)
    ]

ones_all : (qs marks : List ℕ) → OnesOnly marks (mark_all qs marks)
ones_all [] marks = λ j. inr refl
ones_all (q ∷ qs) marks = ones_after marks (set marks q 1) (mark_all qs (set marks q 1)) (ones_set marks q) (ones_all qs (set marks q 1))

-- the sweep, turn by turn
module _ (groups : List ℕ) (children : List (List ℕ)) where
  ones_turn : (p : ℕ) (marks : List ℕ) → OnesOnly marks (turn groups children p marks)
  unfolding row_marked
  ones_turn p marks = at (marked groups marks p) refl
    where
      row : List ℕ
      row = map (λ q. get_or groups q 0) (get_or children p [])

      at : (b : Bool) → marked groups marks p ≡ b → OnesOnly marks (turn groups children p marks)
      at true e = rw (turn_marked groups children p marks e) (ones_all row marks)
      at false e = rw (turn_passed groups children p marks e) (λ j. inr refl)

  ones_swept : (places : List ℕ) (r : ℕ) (marks : List ℕ) → OnesOnly marks (swept groups children places r marks)
  unfolding swept
  ones_swept places zero marks = λ j. inr refl
  ones_swept places (suc r) marks =
      let turned : List ℕ = turn groups children (get_or places r 0) marks in
      ones_after marks turned (swept groups children places r turned) (ones_turn (get_or places r 0) marks) (ones_swept places r turned)

-- from vertex u's group
pub unmarked_none :
    {I : Index} (S : Sound I) (u : ℕ) (marks : List ℕ) (q : ℕ) → q < length I.children → marked I.groups (reach_marks I u marks) q ≡ false
    → get_or (reach_marks I u marks) (get_or I.groups q 0) 0 ≡ 0
unfolding reach_marks swept_in mark_in
unmarked_none {I} S u marks q h f =
    let clear : List ℕ = cleared (length I.names) marks in
    let mark : List ℕ = mark_in I u clear in
    let after : List ℕ = reach_marks I u marks in
    elim (ones_after clear mark after (ones_set clear (get_or I.names u 0)) (ones_swept I.groups I.children (first_labels I.labels).by_rank (rank_in I u) mark) (get_or I.groups q 0)) [
      | inl e ↦ clash (eq-eqb _ 1 e) f
      | inr e ↦ e ∙ cleared_at (length I.names) marks (get_or I.groups q 0) (group_name S.condensed q h).0
    ]
