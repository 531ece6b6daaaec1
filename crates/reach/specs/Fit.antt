-- What is asked of lent names and marks, and what a sound index gives: fit sections, and its groups by rank.
use Rattle.std.specs.Prelude.{◌≡◌, List, ℕ, ◌<◌}
use Rattle.lineage.specs.Index.{Index}
use Rattle.lineage.specs.Numbers.{num_at}
use Rattle.stored.specs.Rows.{Holds, Places}
use Rattle.stored.specs.Reading.{numbers_of}
use Rattle.reach_sweep.specs.declared.groups.Ranks.{Ranks}
use Rattle.reach_sweep.specs.Fit.{names_of, children_of}
use Rattle.reach.specs.Marks.{first_labels}

-- the names of n vertices' groups, each with its mark among so many
pub record Names (w n : ℕ) (names : List ℕ) (marks : ℕ) : Type 0 where
  pub held : Holds w names n
  pub name_low : (v : ℕ) → v < n → num_at w names v < marks

-- children that are places, and the group list, whose names each have their mark among so many
pub record SpotsIn (w k c : ℕ) (groups starts children : List ℕ) (marks : ℕ) : Type 0 where
  pub below : Places w starts children k c
  pub groups_held : Holds w groups k
  pub name_low : (p : ℕ) → p < k → num_at w groups p < marks

-- a place for each rank
pub record RankedIn (w k : ℕ) (places : List ℕ) : Type 0 where
  pub places_held : Holds w places k
  pub place_low : (r : ℕ) → r < k → num_at w places r < k

-- the k groups of an index, and their places by rank in its first labelling
pub record RanksOf (I : Index) (k : ℕ) (ranks : Ranks) : Type 0 where
  pub many : ranks.groups.rows.k ≡ k
  pub names : names_of ranks.groups ≡ I.groups
  pub rows : children_of ranks.groups ≡ I.children
  pub by_rank : numbers_of ranks.places ≡ (first_labels I.labels).by_rank
