-- One group's list: what its entries are told from, and when stored numbers are the list.
use Rattle.std.specs.Prelude.{Bool, ◌&&◌, cond, List, [], ℕ, ◌+◌, eqb, leb, length, get_or, Option, None, Some}
use Rattle.lineage.specs.Lists.{all_below}
use Rattle.lineage.specs.Labels.{Labelling}
use Rattle.lineage.specs.Index.{Index}
use Rattle.lineage.specs.Numbers.{num_at}
use Rattle.laws_exceptions.specs.Exceptions.{is_exception, entry}

-- an index of which only children and labels are told: an entry depends on nothing else
abbrev pub kinds_alone : List (List ℕ) → List Labelling → Index
kinds_alone children labels = record { names = []; groups = []; levels = []; children = children; labels = labels }

-- what stands of place y in the list of x: its entry, or nothing
abbrev pub entry_told : Index → (x y : ℕ) → Option ℕ
entry_told I x y = cond (is_exception I x y) (Some (entry I x y)) None

-- the 32-bit numbers from number `at` on are the list
abbrev pub agrees : List ℕ → ℕ → List ℕ → Bool
agrees lists at row = all_below (length row) (λ j. eqb (num_at 4 lists (at + j)) (get_or row j 0))

-- and there are as many, of `most` in all
abbrev pub stands : List ℕ → (at most : ℕ) → List ℕ → Bool
stands lists at most row = leb (at + length row) most && agrees lists at row

-- where the next list begins, or that this one differs
abbrev pub compared : List ℕ → (at most : ℕ) → List ℕ → Option ℕ
compared lists at most row = cond (stands lists at most row) (Some (at + length row)) None
