-- `sound_groups::rows_pass` meets its contract, by the invariant beside this file.
use mathlib.Core.Path.{ap}
use mathlib.Core.Bool.{not}
use Rattle.laws.proofs.Passed.{passed_not}
use Rattle.sound_groups.proofs.rows_pass.Goals as goal

pub returns-then-not-row_passes : goal.returns-then-not-row_passes
returns-then-not-row_passes c = passed_not c.loop-p.invariant c.loop-p-test.true c.row_passes.ensures (ap not c.if-not-row_passes.true)
