-- `matrix_lines::skip_comments` meets its contract. The invariant: the comments passed, and those that still stand first behind them, are all that stood first.
use Prim.Native.Nat.{◌-◌}
use lib.ListN.{length}
use Rattle.matrix_lines.proofs.Lines.{Skipping}
use Rattle.matrix_lines.proofs.skip_comments.Given as goal

abbrev pub invariant-loop-end : goal.invariant-loop-end
invariant-loop-end l = Skipping l.text l.at l.i l.p

abbrev pub decreases-loop-end : goal.decreases-loop-end
decreases-loop-end l = length l.text - l.p
