-- `text::take_column` meets its contract, by the invariant beside this file.
use native.Mathlib.Omega.{arith}
use Rattle.text.proofs.Pairs.{column_turns}
use Rattle.text.proofs.take_column.Goals as goal

pub loop-i-preserved : goal.loop-i-preserved
loop-i-preserved c = column_turns _ _ _ _ (omega arith) (omega arith) (omega arith) c.loop-i.invariant
