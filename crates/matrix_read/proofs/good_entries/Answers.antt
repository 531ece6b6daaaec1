-- `matrix_read::good_entries` meets its contract, by the invariant beside this file.
use mathlib.Core.Path.{sym, ◌∙◌}
use native.Mathlib.Omega.{arith}
use Rattle.matrix_read.proofs.Entries.{pass_stops, pass_full, pass_turns}
use Rattle.matrix_read.proofs.good_entries.Goals as goal

pub returns-in_default : goal.returns-in_default
returns-in_default c = pass_stops _ _ _ _ _ _ c.loop-i.invariant (sym c.in_default.is ∙ c.read_entry.ensures)

pub loop-i-preserved : goal.loop-i-preserved
loop-i-preserved c = pass_turns _ _ _ _ _ _ c.loop-i.invariant _ c.loop-i-test.true (sym c.in-Some.is ∙ c.read_entry.ensures)

pub returns : goal.returns
returns c = pass_full _ _ _ _ _ _ c.loop-i.invariant (omega arith)
