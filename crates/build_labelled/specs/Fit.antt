-- What is lent to each function fits together: the regions that it reads lie outside its window, and the window lies in the buffer.
use Rattle.std.specs.Prelude.{◌≡◌, List, ℕ, ◌+◌, ◌^◌, ◌≤◌, ◌<◌, length, get_or}
use Rattle.lineage.specs.Lists.{part}
use Rattle.lineage.specs.Graph.{place_of, levels_of}
use Rattle.lineage.specs.Labels.{Order}
use Rattle.lineage.specs.Sound.{child_of}
use Rattle.laws.specs.Sound.{SoundGroups}
use Rattle.laws.specs.Laid.{Below, Laid}
use Rattle.numbers.specs.Regions.{Outside}
use Rattle.build_rows.specs.Rows.{RowsOnce}
use Rattle.build_labelled.specs.Window.{labels_window, groups_by, children_by}

-- k rows of c values, the values behind the starts, outside a window
pub record RowsOutside (work : List ℕ) (at k c base size : ℕ) : Type 0 where
  pub starts : Outside work at (k + 1) base size
  pub values : Outside work (at + k + 1) c base size

-- of each of n vertices the name and the place of its group, of k
pub record PlacesFit (work : List ℕ) (n k c names place base : ℕ) : Type 0 where
  pub names_there : Outside work names n base (labels_window n k c)
  pub place_there : Outside work place n base (labels_window n k c)
  pub places : (v : ℕ) → v < n → get_or (part work place n) v 0 ≡ place_of (groups_by work names n) (get_or (part work names n) v 0)
  pub all : length (groups_by work names n) ≡ k
  pub room : base + labels_window n k c ≤ length work

-- an order of the vertices at `at`, and k rows of c places
pub record OrderFit (orders work : List ℕ) (at n k c names place parents base : ℕ) : Type 0 where
  pub inside : at + n ≤ length orders
  pub order : Order n (part orders at n)
  pub vertices : PlacesFit work n k c names place base
  pub parents_there : RowsOutside work parents k c base (labels_window n k c)
  pub parents_laid : Laid (part work parents (k + 1)) (part work (parents + k + 1) c) k
  pub parents_low : Below k (part work (parents + k + 1) c)
  pub few : c < 2 ^ 32

-- the groups of n vertices: names, places, and the rows of children and of parents, c of each; names and children are sound, so no group is below itself
pub record GroupsFit (work : List ℕ) (n k c names place parents children base : ℕ) : Type 0 where
  pub vertices : PlacesFit work n k c names place base
  pub children_there : RowsOutside work children k c base (labels_window n k c)
  pub children_laid : Laid (part work children (k + 1)) (part work (children + k + 1) c) k
  pub sound : SoundGroups (part work names n) (groups_by work names n) (levels_of (children_by work children k c)) (children_by work children k c)
  pub parents_there : RowsOutside work parents k c base (labels_window n k c)
  pub parents_are : RowsOnce (part work parents (k + 1)) (part work (parents + k + 1) c) k (λ q p. child_of (children_by work children k c) p q)
  pub few_groups : k < 2 ^ 32
  pub few_children : c < 2 ^ 32

-- and an order of the vertices at `at`
pub record LabelFit (orders work : List ℕ) (at n k c names place parents children base : ℕ) : Type 0 where
  pub inside : at + n ≤ length orders
  pub order : Order n (part orders at n)
  pub groups : GroupsFit work n k c names place parents children base
