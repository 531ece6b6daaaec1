-- A row marked from its first group on: its groups' names are marked one by one.
use mathlib.Core.Path.{◌≡◌, sym, ap, ◌∙◌}
use mathlib.Core.List.{List, map}
use Prim.Native.Nat.{ℕ, ◌+◌, ◌≤◌, ◌<◌}
use native.Mathlib.Omega.{arith}
use lib.ListN.{length, get_or, set, length-map}
use Rattle.laws.proofs.Lists.{get_d_mapped}
use Rattle.numbers.proofs.Marks.{Marking, marking_more, marking_all}
use Rattle.reach_sweep.specs.Sweep.{row_marked}

-- i of the row are marked
abbrev pub RowMarking : (groups row : List ℕ) → ℕ → (before marks : List ℕ) → Type 0
RowMarking groups row i before marks = Marking (map (λ q. get_or groups q 0) row) before i marks

module _ (groups row : List ℕ) {i : ℕ} {before marks : List ℕ} (M : RowMarking groups row i before marks) where
  pub row_more : {q name : ℕ} → i < length row → q ≡ get_or row i 0 → name ≡ get_or groups q 0 → RowMarking groups row (i + 1) before (set marks name 1)
  row_more {q} h is named =
      marking_more M (omega (arith, length-map row (λ x. get_or groups x 0)))
      (named ∙ ap (λ x. get_or groups x 0) is ∙ sym (get_d_mapped (λ x. get_or groups x 0) row i 0 0 h))

  pub row_all : length row ≤ i → marks ≡ row_marked groups row before
  unfolding row_marked
  row_all h = marking_all M (omega (arith, length-map row (λ x. get_or groups x 0)))
