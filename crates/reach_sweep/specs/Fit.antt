-- The lists that groups hold, and what is asked of the marks that a sweep is lent. A sound index gives it.
use Rattle.std.specs.Prelude.{List, ℕ, ◌<◌, get_or}
use Rattle.stored.specs.Reading.{numbers_of, rows_of}
use Rattle.reach_sweep.specs.declared.groups.Groups.{Groups}

abbrev pub names_of : Groups → List ℕ
names_of g = numbers_of g.names

abbrev pub children_of : Groups → List (List ℕ)
children_of g = rows_of g.rows

-- the names each have their mark among so many
pub record Spots (g : Groups) (marks : ℕ) : Type 0 where
  pub name_low : (p : ℕ) → p < g.rows.k → get_or (names_of g) p 0 < marks
