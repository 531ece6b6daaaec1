-- `matrix_read::store_entries` meets its contract, by the invariant beside this file.
use mathlib.Core.Path.{sym, ◌∙◌}
use native.Mathlib.Omega.{arith}
use Rattle.matrix_read.proofs.Storing.{store_never, store_turns}
use Rattle.matrix_read.proofs.store_entries.Goals as goal

pub returns-in_default : goal.returns-in_default
returns-in_default c = absurd (store_never _ _ _ _ _ _ _ _ _ _ c.loop-i.invariant c.loop-i-test.true (sym c.in_default.is ∙ c.read_entry.ensures))

pub loop-i-preserved : goal.loop-i-preserved
loop-i-preserved c = store_turns _ _ _ _ _ _ _ _ _ _ c.loop-i.invariant _ c.loop-i-test.true (omega arith) (omega arith) (sym c.in-Some.is ∙ c.read_entry.ensures)
