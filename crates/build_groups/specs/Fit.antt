-- What is lent to the pass fits together: the names lie outside its window, and the window lies in the buffer.
use Rattle.std.specs.Prelude.{◌≡◌, List, ℕ, ◌+◌, ◌*◌, ◌^◌, ◌≤◌, ◌<◌, length, get_or}
use Rattle.lineage.specs.Lists.{part}
use Rattle.numbers.specs.Regions.{Outside}

-- no name is above its vertex, and a name is its own name
pub record Named (names : List ℕ) : Type 0 where
  pub low : (v : ℕ) → v < length names → get_or names v 0 ≤ v
  pub own : (v : ℕ) → v < length names → get_or names (get_or names v 0) 0 ≡ get_or names v 0

-- names of n vertices
pub record ListFit (work : List ℕ) (names n base : ℕ) : Type 0 where
  pub names_there : Outside work names n base (3 * n)
  pub named : Named (part work names n)
  pub room : base + 3 * n ≤ length work
  pub few : n ≤ 2 ^ 32
