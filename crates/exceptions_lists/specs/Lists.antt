-- The lists of an index, one group after the other: how many entries the first x lists have, where each list ends, and when a list stands in stored numbers.
use Rattle.std.specs.Prelude.{Bool, ◌&&◌, List, map, ℕ, suc, ◌+◌, eqb, length}
use Rattle.lineage.specs.Lists.{upto, joined}
use Rattle.lineage.specs.Index.{Index}
use Rattle.lineage.specs.Numbers.{num_at}
use Rattle.laws_exceptions.specs.Exceptions.{entries_of, exceptions_of}
use Rattle.exceptions_rows.specs.Rows.{stands}

-- the entries of the first x lists
unfoldable pub entries_to : Index → ℕ → ℕ
unfolding exceptions_of
entries_to I x = length (joined (map (entries_of I) (upto x)))

-- where each of the first x lists ends, counted in entries
unfoldable pub ends_to : Index → ℕ → List ℕ
unfolding entries_to
ends_to I x = map (λ i. entries_to I (suc i)) (upto x)

-- list x stands behind those before it, of which the first is at number `first`, and ends where the stored starts say
abbrev pub list_stands : Index → List ℕ → (first most : ℕ) → ℕ → Bool
list_stands I lists first most x = stands lists (first + entries_to I x) most (entries_of I x) && eqb (num_at 4 lists (x + 3)) (entries_to I (x + 1))
