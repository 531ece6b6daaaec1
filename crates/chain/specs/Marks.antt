-- The marks of what reaches the target: its group marked, and the climb over an index, by its first labelling.
use Rattle.std.specs.Prelude.{true, ◌↔◌, ◌≡◌, List, ℕ, ◌<◌, length}
use Rattle.lineage.specs.Index.{Index}
use Rattle.laws.specs.Leads.{Down}
use Rattle.reach_sweep.specs.Sweep.{marked}
use Rattle.reach_climb.specs.Climb.{climbed}
use Rattle.reach.specs.Marks.{first_labels}

-- the marks after the climb over an index, through all ranks
unfoldable pub climbed_in : Index → List ℕ → List ℕ
unfolding climbed
climbed_in I marks = climbed I.groups I.children (first_labels I.labels).by_rank (length I.children) marks

-- marked are exactly the groups that reach the one at place t
pub record Exact (I : Index) (t : ℕ) (marks : List ℕ) : Type 0 where
  pub exactly : (p : ℕ) → p < length I.children → (marked I.groups marks p ≡ true) ↔ Down I.children p t
