-- `sound_blocks::intervals_pass` meets its contract. The invariant: the groups passed have passed both tests.
use Rattle.laws.proofs.Passed.{Passed}
use Rattle.stored.specs.Reading.{rows_of}
use Rattle.sound_ranks.specs.Reading.{labelling_read}
use Rattle.sound_blocks.specs.Tests.{intervals_pass}
use Rattle.sound_blocks.proofs.intervals_pass.Given as goal

abbrev pub invariant-loop-p : goal.invariant-loop-p
invariant-loop-p g l = Passed (intervals_pass (rows_of l.rows.rows) (labelling_read g.row.Z l.ranked.labelling)) l.ranked.labelling.k l.p
