-- What lies outside a window lies outside a smaller one, in any buffer as long; and rows that lie outside are what they were.
use mathlib.Core.Path.{◌≡◌}
use mathlib.Core.List.{List}
use Prim.Native.Nat.{ℕ, ◌+◌, ◌≤◌}
use native.Mathlib.Omega.{arith}
use lib.ListN.{length}
use Rattle.lineage.specs.Lists.{part}
use Rattle.numbers.specs.Regions.{Kept, Outside}
use Rattle.numbers.proofs.Regions.{kept_apart, apart_within}
use Rattle.build_levels.specs.Children.{children_in_words}
use Rattle.build_labelled.specs.Window.{children_by}
use Rattle.build_labelled.specs.Fit.{RowsOutside}

pub outside_within :
    {work work' : List ℕ} {at count base size base' size' : ℕ} → length work' ≡ length work → base ≤ base' → base' + size' ≤ base + size
    → Outside work at count base size → Outside work' at count base' size'
outside_within {base' = base'} {size'} same l h o = record { fits = omega (arith, o.fits); apart = apart_within base' size' l h o.apart }

pub rows_within :
    {work work' : List ℕ} {at k c base size base' size' : ℕ} → length work' ≡ length work → base ≤ base' → base' + size' ≤ base + size
    → RowsOutside work at k c base size → RowsOutside work' at k c base' size'
rows_within same l h o = record { starts = outside_within same l h o.starts; values = outside_within same l h o.values }

-- the rows of a region, and the children that they are
module _ {work work' : List ℕ} {at k c base size : ℕ} (o : RowsOutside work at k c base size) (K : Kept work work' base size) where
  pub starts_same : part work' at (k + 1) ≡ part work at (k + 1)
  starts_same = kept_apart K o.starts.apart

  pub values_same : part work' (at + k + 1) c ≡ part work (at + k + 1) c
  values_same = kept_apart K o.values.apart

  pub children_same : children_by work' at k c ≡ children_by work at k c
  unfolding children_in_words
  children_same = rw (starts_same, values_same)
