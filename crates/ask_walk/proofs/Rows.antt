-- The row of a group: the part of the children from child start to next child start. Its numbers are the group's children, as the index has them.
use mathlib.Core.Path.{◌≡◌, sym, ap, ◌∙◌}
use mathlib.Core.List.{List, []}
use Prim.Native.Nat.{ℕ, ◌+◌, ◌-◌, ◌*◌, ◌≤◌, ◌<◌}
use native.Mathlib.Omega.{arith}
use native.Mathlib.Nat.{mul-le-mul_left, mul-div-le, div-eq_of_eq-mul_right}
use lib.ListN.{length, get_or}
use Rattle.lineage.specs.Numbers.{Width, num_at, numbers}
use Rattle.numbers.proofs.Numbers.{num_part, numbers_part}
use Rattle.stored.specs.Sections.{ChildrenOf, children_in}
use Rattle.stored.proofs.Sections.{row_is}
use Rattle.ask_walk.specs.Fit.{count, all, Fit, Below}

-- how many whole numbers a stretch holds
pub count_is : (w n : ℕ) (s : List ℕ) → Width w → length s ≡ w * n → count w s ≡ n
count_is w n s W e = div-eq_of_eq-mul_right (omega (arith, W.low)) e

-- a row ends within the children
pub end_low :
    {w k d t : ℕ} {groups levels starts children labels : List ℕ} {marks : ℕ} (F : Fit w k d t groups levels starts children labels marks) (g : ℕ)
    → g < k → w * num_at w starts (g + 1) ≤ length children
end_low {w} {children = children} F g h = omega (arith, mul-le-mul_left w (F.end_low g h), mul-div-le (length children) w)

module _ {w k d t : ℕ} {groups levels starts children labels : List ℕ} {marks : ℕ} (F : Fit w k d t groups levels starts children labels marks)
    (g : ℕ) (g-low : g < k) (row : List ℕ) (P : ChildrenOf starts children w g row) where
  abbrev from : ℕ
  from = num_at w starts g

  abbrev size : ℕ
  size = num_at w starts (g + 1) - num_at w starts g

  row_count : count w row ≡ size
  row_count = count_is w size row F.labelled.width P.long

  row_at_lem : (i : ℕ) → i < size → num_at w row i ≡ num_at w children (from + i)
  row_at_lem i h = ap (λ (s : List ℕ). num_at w s i) P.is ∙ num_part w children from size i h

  -- its numbers are the group's children
  pub row_all : all w row ≡ get_or (children_in w starts children k (count w children)) g []
  row_all =
      rw row_count
      (ap (λ (s : List ℕ). numbers w s size) P.is
      ∙ numbers_part w children (count w children) from size (omega (arith, F.start_rises g g-low, F.end_low g g-low))
      ∙ sym (row_is w starts children k (count w children) g g-low))

  -- and they are of levels below the group's
  pub row_below : (L : ℕ) → num_at w levels g ≤ L → Below w k L levels row
  row_below L h = record {
    whole = rw row_count P.long;
    child_low = λ i l. let j : i < size = omega (arith, row_count) in rw (row_at_lem i j) (F.child_low g (from + i) g-low (omega arith) (omega arith));
    level_low = λ i l.
        let j : i < size = omega (arith, row_count) in
        rw (row_at_lem i j) (omega (arith, F.level_falls g (from + i) g-low (omega arith) (omega arith)));
  }
