-- The entries of x compared one by one with stored numbers from number `from` on: those of the places passed agree. The next one agrees too, or the list differs.
use mathlib.Core.Bool.{Bool, true, false}
use mathlib.Core.Path.{◌≡◌, sym, ap, ◌∙◌}
use mathlib.Core.List.{List, [], ◌∷◌}
use Prim.Native.Nat.{ℕ, ◌+◌, ◌*◌, ◌≤◌, ◌<◌}
use native.Mathlib.Omega.{arith}
use native.Mathlib.Nat.{add-zero}
use lib.Dec.{eqb}
use lib.ListN.{length, get_or, length-append}
use borrow.Author.Tests.{eq-eqb, ne_eqb}
use Rattle.lineage.specs.Index.{Index}
use Rattle.lineage.specs.Numbers.{num_at}
use Rattle.laws.proofs.Lists.{all_broken}
use Rattle.laws.proofs.Passed.{Passed, passed_none, passed_next, passed_all}
use Rattle.laws_exceptions.specs.Exceptions.{is_exception, entry, entries_of}
use Rattle.laws_exceptions.proofs.Through.{row_to, row_none, row_all, row_over, row_more, row_room, row_next}
use Rattle.exceptions_rows.specs.Rows.{agrees}

-- entry j agrees
abbrev agrees_at : Index → ℕ → List ℕ → ℕ → ℕ → Bool
agrees_at I x lists from j = eqb (num_at 4 lists (from + j)) (get_or (entries_of I x) j 0)

pub record Comparing (I : Index) (x : ℕ) (lists : List ℕ) (from y at : ℕ) : Type 0 where
  pub here : at ≡ from + length (row_to I x y)
  pub passed : Passed (agrees_at I x lists from) (length (entries_of I x)) (length (row_to I x y))

pub comparing_none : (I : Index) (x : ℕ) (lists : List ℕ) (from : ℕ) → Comparing I x lists from 0 from
comparing_none I x lists from = record {
  here = rw (row_none I x) (sym (add-zero from));
  passed = rw (row_none I x) (passed_none (agrees_at I x lists from) (length (entries_of I x)));
}

module _ {I : Index} {x : ℕ} {lists : List ℕ} {from y at : ℕ} (K : Comparing I x lists from y at) where
  pub comparing_over : is_exception I x y ≡ false → Comparing I x lists from (y + 1) at
  comparing_over f = record { here = rw (row_over I x y f) K.here; passed = rw (row_over I x y f) K.passed }

  module _ (t : is_exception I x y ≡ true) (low : y < length I.groups) where
    pub comparing_fits : 4 * (from + length (entries_of I x)) ≤ length lists → 4 * at + 4 ≤ length lists
    comparing_fits room = omega (arith, K.here, row_room I x y t low)

    -- the next number and the next entry
    module _ {u v : ℕ} (read : u ≡ num_at 4 lists at) (is : v ≡ entry I x y) where
      next_is : agrees_at I x lists from (length (row_to I x y)) ≡ eqb u v
      next_is = rw (row_next I x y t low, ← is, ← K.here, ← read)

      pub comparing_more : u ≡ v → Comparing I x lists from (y + 1) (at + 1)
      comparing_more e =
          let longer : length (row_to I x (y + 1)) ≡ length (row_to I x y) + 1 = omega (arith, ap length (row_more I x y t), length-append (row_to I x y) (entry I x y ∷ [])) in
          record {
            here = omega (arith, K.here, longer);
            passed = rw longer (passed_next K.passed (row_room I x y t low) (next_is ∙ eq-eqb u v e));
          }

      pub comparing_not : (u ≡ v → ⊥) → false ≡ agrees lists from (entries_of I x)
      comparing_not n =
          sym (all_broken (agrees_at I x lists from) (length (entries_of I x)) (length (row_to I x y)) (row_room I x y t low) (next_is ∙ ne_eqb u v n))

  pub comparing_all : y ≡ length I.groups → true ≡ agrees lists from (entries_of I x)
  comparing_all e = passed_all K.passed (omega (arith, ap length (row_all I x y e)))
