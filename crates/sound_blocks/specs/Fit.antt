-- What is asked of one labelling before its inner intervals are looked at side by side.
use Rattle.std.specs.Prelude.{true, ◌≡◌, ℕ}
use Rattle.lineage.specs.Lists.{all_below}
use Rattle.lineage.specs.Labels.{Labelling}
use Rattle.lineage.specs.Sound.{rank_passes, inner_passes}

-- a labelling of k groups whose ranks and inner intervals have passed their tests
pub record Ranked (k : ℕ) (l : Labelling) : Type 0 where
  pub ranks : all_below k (rank_passes k l) ≡ true
  pub inners : all_below k (inner_passes l) ≡ true
