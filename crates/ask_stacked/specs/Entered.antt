-- A group entered: its mark is set, and its row is whole.
use Rattle.std.specs.Prelude.{◌≡◌, List, ℕ, ◌+◌, ◌^◌, ◌<◌, set}
use Rattle.lineage.specs.Numbers.{num_at}
use Rattle.ask_stacked.specs.declared.Row.{Row}

-- with g's mark set the marks m are m', and row is all of g's row
pub record Entered (w : ℕ) (groups starts : List ℕ) (g : ℕ) (m m' : List ℕ) (row : Row) : Type 0 where
  pub marked : m' ≡ set m (num_at w groups g) 1
  pub from : row.next ≡ num_at w starts g
  pub to : row.end ≡ num_at w starts (g + 1)
  pub small : row.end < 2 ^ 32
