-- `sound_blocks::block_passes` meets its contract. The invariant: from `rank` on the walk ends as the whole walk does. The rank falls, since each step
-- goes left.
use Rattle.lineage.specs.Sound.{child_of}
use Rattle.stored.specs.Reading.{rows_of}
use Rattle.sound_ranks.specs.Reading.{labelling_read}
use Rattle.sound_blocks.proofs.Walk.{Walks}
use Rattle.sound_blocks.proofs.block_passes.Given as goal

abbrev pub invariant-loop-rank : goal.invariant-loop-rank
invariant-loop-rank g l = Walks (labelling_read g.row.Z l.labelling) (child_of (rows_of l.rows.rows) l.p) l.labelling.k l.initial.rank l.low l.rank

abbrev pub decreases-loop-rank : goal.decreases-loop-rank
decreases-loop-rank g l = l.rank
