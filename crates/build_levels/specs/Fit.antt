-- What is lent to the pass fits together: the regions that it reads lie outside its window, and the window lies in the buffer.
use Rattle.std.specs.Prelude.{true, ◌≡◌, List, ℕ, ◌+◌, ◌^◌, ◌≤◌, ◌<◌, length}
use Rattle.lineage.specs.Lists.{among, position, part}
use Rattle.lineage.specs.Labels.{Order}
use Rattle.laws.specs.Laid.{Below, Laid}
use Rattle.numbers.specs.Regions.{Outside}
use Rattle.build_rows.specs.Rows.{rows_in}

-- k places by rank and their children, which all have a lower rank
pub record UpFit (work : List ℕ) (out k starts values c base : ℕ) : Type 0 where
  pub out_there : Outside work out k base k
  pub starts_there : Outside work starts (k + 1) base k
  pub values_there : Outside work values c base k
  pub order : Order k (part work out k)
  pub laid : Laid (part work starts (k + 1)) (part work values c) k
  pub values_low : Below k (part work values c)
  pub falls :
      (p q : ℕ) → p < k → among q (rows_in work starts values c k p) ≡ true → position q (part work out k) < position p (part work out k)
  pub room : base + k ≤ length work
  pub few : k < 2 ^ 32
