-- The lists of the first x groups stand in stored numbers as they should, and the next one begins at number `at`. It stands as well, and ends where the stored starts
-- say, or the whole does not stand.
use Rattle.std.specs.Prelude.{Option, Some}
use Rattle.std.proofs.lemmas.Option.{cond_some}
use mathlib.Core.Bool.{Bool, true, false, ◌&&◌}
use mathlib.Core.Path.{◌≡◌, sym, ap, ◌∙◌}
use mathlib.Core.List.{List}
use Prim.Native.Nat.{ℕ, ◌+◌, ◌-◌, ◌≤◌, ◌<◌}
use native.Mathlib.Nat.{add-zero}
use native.Mathlib.Omega.{arith}
use lib.Dec.{eqb, leb}
use lib.ListN.{length}
use borrow.Author.Tests.{eq-eqb, ne_eqb, leb-true}
use Rattle.lineage.specs.Lists.{all_below}
use Rattle.lineage.specs.Index.{Index}
use Rattle.lineage.specs.Numbers.{num_at}
use Rattle.laws.proofs.Tests.{and_both, and_left}
use Rattle.laws.proofs.Lists.{all_broken}
use Rattle.laws.proofs.Passed.{Passed, passed_none, passed_next}
use Rattle.laws_exceptions.specs.Exceptions.{entries_of}
use Rattle.exceptions_rows.specs.Rows.{agrees, stands, compared}
use Rattle.exceptions_rows.proofs.Given.{cond_none}
use Rattle.exceptions_lists.specs.Lists.{entries_to, list_stands}
use Rattle.exceptions_lists.proofs.Ends.{entries_none, entries_more}

pub record Standing (I : Index) (lists : List ℕ) (k most x at : ℕ) : Type 0 where
  pub passed : Passed (list_stands I lists (k + 3) most) k x
  pub here : at ≡ k + 3 + entries_to I x
  pub low : at ≤ most

pub standing_none : (I : Index) (lists : List ℕ) (k most : ℕ) → k + 3 ≤ most → Standing I lists k most 0 (k + 3)
standing_none I lists k most low = record {
  passed = passed_none (list_stands I lists (k + 3) most) k;
  here = rw (entries_none I) (sym (add-zero (k + 3)));
  low = low;
}

module _ {I : Index} {lists : List ℕ} {k most x at : ℕ} (K : Standing I lists k most x at) where
  abbrev all : Bool
  all = all_below k (list_stands I lists (k + 3) most)

  abbrev last : Bool
  last = eqb (k + 3 + entries_to I k) most

  abbrev here? : Bool
  here? = stands lists (k + 3 + entries_to I x) most (entries_of I x)

  broken : x < k → list_stands I lists (k + 3) most x ≡ false → false ≡ (all && last)
  broken h f = rw (all_broken (list_stands I lists (k + 3) most) k x h f)

  -- the next list, as it was compared
  module _ (h : x < k) {r : Option ℕ} (told : r ≡ compared lists at most (entries_of I x)) where
    at_here : stands lists at most (entries_of I x) ≡ here?
    at_here = ap (λ (z : ℕ). stands lists z most (entries_of I x)) K.here

    pub standing_differs : ((v : ℕ) → r ≡ Some v → ⊥) → false ≡ (all && last)
    standing_differs n = broken h (rw (sym at_here ∙ cond_none (stands lists at most (entries_of I x)) (at + length (entries_of I x)) told n))

    module _ {next : ℕ} (e : r ≡ Some next) where
      so : (stands lists at most (entries_of I x) ≡ true) × (at + length (entries_of I x) ≡ next)
      so = cond_some (stands lists at most (entries_of I x)) (at + length (entries_of I x)) next (sym told ∙ e)

      next_here : next ≡ k + 3 + entries_to I (x + 1)
      next_here = omega (arith, so.1, K.here, entries_more I x)

      -- where it ends, as it is stored
      module _ {v : ℕ} (read : v ≡ num_at 4 lists (x + 3)) where
        pub standing_broken : (v ≡ next - (k + 3) → ⊥) → false ≡ (all && last)
        standing_broken n =
            broken h (rw (sym at_here ∙ so.0, ne_eqb (num_at 4 lists (x + 3)) (entries_to I (x + 1)) (λ i. n (omega (arith, read, i, next_here)))))

        pub standing_more : v ≡ next - (k + 3) → Standing I lists k most (x + 1) next
        standing_more i = record {
          passed =
              passed_next K.passed h
              (and_both (sym at_here ∙ so.0) (eq-eqb (num_at 4 lists (x + 3)) (entries_to I (x + 1)) (omega (arith, read, i, next_here))));
          here = next_here;
          low =
              omega (
                arith,
                so.1,
                leb-true (at + length (entries_of I x)) most (and_left (leb (at + length (entries_of I x)) most) (agrees lists at (entries_of I x)) so.0),
              );
        }
