-- The test of one group that the pass over the groups makes.
use Rattle.std.specs.Prelude.{Bool, ◌&&◌, List, ℕ}
use Rattle.lineage.specs.Labels.{Labelling}
use Rattle.lineage.specs.Sound.{block_passes}
use Rattle.sound_ranks.specs.Tests.{fall_and_outer}

-- the outer and the inner interval of p are by the rules
abbrev pub intervals_pass : List (List ℕ) → Labelling → ℕ → Bool
intervals_pass children l p = fall_and_outer children l p && block_passes children l p
