-- `sound_blocks::roots_pass` meets its contract. The invariant: from `rank` on the walk ends as the whole walk does.
use Rattle.sound_ranks.specs.Reading.{labelling_read}
use Rattle.sound_blocks.specs.Marks.{unmarked}
use Rattle.sound_blocks.proofs.Walk.{Walks}
use Rattle.sound_blocks.proofs.roots_pass.Given as goal

abbrev pub invariant-loop-rank : goal.invariant-loop-rank
invariant-loop-rank g l = Walks (labelling_read g.row.Z l.labelling) (unmarked l.marks) l.labelling.k l.labelling.k 0 l.rank

abbrev pub decreases-loop-rank : goal.decreases-loop-rank
decreases-loop-rank g l = l.rank
