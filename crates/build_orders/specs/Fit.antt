-- What is lent to each pass fits together: the regions that it reads lie outside its window, and the window lies in the buffer.
use Rattle.std.specs.Prelude.{◌≡◌, List, ℕ, ◌+◌, ◌≤◌, ◌<◌, length, get_or}
use Rattle.lineage.specs.Lists.{part}
use Rattle.lineage.specs.Graph.{group_list, place_of}
use Rattle.lineage.specs.Labels.{Order}
use Rattle.laws.specs.Laid.{Below}
use Rattle.numbers.specs.Regions.{Outside}

-- an order of the n vertices at `at`; of each vertex the name and the place of its group
pub record RankedFit (orders work : List ℕ) (at n names place base : ℕ) : Type 0 where
  pub inside : at + n ≤ length orders
  pub order : Order n (part orders at n)
  pub names_there : Outside work names n base n
  pub place_there : Outside work place n base n
  pub places : (v : ℕ) → v < n → get_or (part work place n) v 0 ≡ place_of (group_list (part work names n)) (get_or (part work names n) v 0)
  pub room : base + n ≤ length work

-- where the rows of k places start, and a sequence of places
pub record RootsFit (work : List ℕ) (starts k sequence base : ℕ) : Type 0 where
  pub starts_there : Outside work starts (k + 1) base k
  pub sequence_there : Outside work sequence k base k
  pub places : Below k (part work sequence k)
  pub room : base + k ≤ length work
