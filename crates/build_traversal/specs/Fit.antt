-- What is lent to a traversal fits together.
use Rattle.std.specs.Prelude.{List, ℕ, ◌+◌, ◌*◌, ◌^◌, ◌≤◌, ◌<◌, length}
use Rattle.lineage.specs.Lists.{part}
use Rattle.laws.specs.Laid.{Below, Laid}
use Rattle.numbers.specs.Regions.{Outside}

-- n rows of c vertices and q roots lie outside the window of so many words from base on, of which the first 4n are for marks and frames
pub record TraverseFit (work : List ℕ) (starts values c roots q n base size : ℕ) : Type 0 where
  pub laid : Laid (part work starts (n + 1)) (part work values c) n
  pub values_low : Below n (part work values c)
  pub roots_low : Below n (part work roots q)
  pub starts_there : Outside work starts (n + 1) base size
  pub values_there : Outside work values c base size
  pub roots_there : Outside work roots q base size
  pub room : base + size ≤ length work
  pub frames_room : 4 * n ≤ size
  pub few_values : c < 2 ^ 32
  pub few_roots : q < 2 ^ 32
  pub few : n < 2 ^ 32
