-- The row at a depth of the stack, the roots or one of the rows: where it lies, that its numbers are vertices, and that its end lies in it.
use mathlib.Core.Path.{◌≡◌}
use mathlib.Core.List.{List}
use Prim.Native.Nat.{ℕ, zero, suc, ◌+◌, ◌^◌, ◌≤◌, ◌<◌}
use native.Mathlib.Omega.{arith}
use lib.ListN.{length, get_or}
use Rattle.lineage.specs.Lists.{part}
use Rattle.laws.specs.Laid.{Below}
use Rattle.laws.proofs.Parts.{part_length}
use Rattle.laws.proofs.Laid.{start_low}
use Rattle.numbers.specs.Regions.{Kept}
use Rattle.numbers.proofs.Regions.{read_at}
use Rattle.build_traversal.specs.Frames.{row_place, row_end}
use Rattle.build_traversal.specs.Fit.{TraverseFit}
use Rattle.build_traversal.proofs.Tasks.{row_list}

module _ {work₀ : List ℕ} {starts values c roots q n base size : ℕ} (fit : TraverseFit work₀ starts values c roots q n base size) where
  abbrev entries : List ℕ
  entries = part work₀ values c

  abbrev R : List ℕ
  R = part work₀ roots q

  pub roots_long : length R ≡ q
  roots_long = part_length work₀ roots q fit.roots_there.fits

  pub entries_long : length entries ≡ c
  entries_long = part_length work₀ values c fit.values_there.fits

  -- the row at depth d: where it lies, and its numbers
  pub row_low : (d : ℕ) → Below n (row_list R entries d)
  row_low zero = fit.roots_low
  row_low (suc d) = fit.values_low

  module _ {work : List ℕ} (k : Kept work₀ work base size) where
    pub row_at_lem : (d at e : ℕ) → at ≡ row_place roots values d → e < length (row_list R entries d) → get_or work (at + e) 0 ≡ get_or (row_list R entries d) e 0
    row_at_lem zero at e p h = rw p (read_at fit.roots_there k e (omega (arith, roots_long)))
    row_at_lem (suc d) at e p h = rw p (read_at fit.values_there k e (omega (arith, entries_long)))

    pub row_inside : (d at e : ℕ) → at ≡ row_place roots values d → e < length (row_list R entries d) → at + e < length work
    row_inside zero at e p h = omega (arith, roots_long, fit.roots_there.fits, k.long)
    row_inside (suc d) at e p h = omega (arith, entries_long, fit.values_there.fits, k.long)

  pub row_long : (d : ℕ) → length (row_list R entries d) ≤ c + q
  row_long zero = omega (arith, roots_long)
  row_long (suc d) = omega (arith, entries_long)

  pub row_few : (d : ℕ) → length (row_list R entries d) < 2 ^ 32
  row_few zero = omega (arith, roots_long, fit.few_roots)
  row_few (suc d) = omega (arith, entries_long, fit.few_values)

  pub end_low : (stack : List ℕ) (d : ℕ) → ((i : ℕ) → i < d → get_or stack i 0 < n) → row_end (part work₀ starts (n + 1)) q stack d ≤ length (row_list R entries d)
  end_low stack zero h = omega (arith, roots_long)
  end_low stack (suc d) h = start_low fit.laid (suc (get_or stack d 0)) (h d (omega arith))
