-- `sound_ranks::ranks_pass` meets its contract. The invariant: `passed` tells whether the ranks gone through have passed.
use Rattle.sound_ranks.specs.Reading.{labelling_read}
use Rattle.sound_ranks.specs.Tests.{rank_and_inner}
use Rattle.sound_ranks.proofs.Told.{Told}
use Rattle.sound_ranks.proofs.ranks_pass.Given as goal

abbrev pub invariant-loop-r : goal.invariant-loop-r
invariant-loop-r g l = Told (rank_and_inner l.labelling.k (labelling_read g.row.Z l.labelling)) l.labelling.k l.r l.passed
