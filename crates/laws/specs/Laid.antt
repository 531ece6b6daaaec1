-- Rows laid out: n + 1 starts, and the values. Row x is `row_at` of lineage, from its start to the next.
use Rattle.std.specs.Prelude.{◌≡◌, List, ℕ, suc, ◌≤◌, ◌<◌, length, get_or}
use Rattle.lineage.specs.Stored.{row_at}

-- every number of the list is below n
abbrev pub Below : ℕ → List ℕ → Type 0
Below n xs = (i : ℕ) → i < length xs → get_or xs i 0 < n

-- the starts of n rows: positions in the values, first 0, never falling, last the number of values
pub record Laid (starts values : List ℕ) (n : ℕ) : Type 0 where
  pub first : get_or starts 0 0 ≡ 0
  pub rising : (x : ℕ) → x < n → get_or starts x 0 ≤ get_or starts (suc x) 0
  pub last : get_or starts n 0 ≡ length values

-- n rows are laid out, and row x is `row x`
pub record Rows (starts values : List ℕ) (n : ℕ) (row : ℕ → List ℕ) : Type 0 where
  pub laid : Laid starts values n
  pub row_is : (x : ℕ) → x < n → row_at starts values x ≡ row x
