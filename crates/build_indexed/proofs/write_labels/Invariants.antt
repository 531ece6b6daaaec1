-- `build_indexed::write_labels` meets its contract. The invariant: j orders are gone through, their labellings are written, and the last of them is still there.
use Rattle.build_indexed.proofs.Turns.{Turns}
use Rattle.build_indexed.proofs.write_labels.Given as goal

abbrev pub invariant-loop-j : goal.invariant-loop-j
invariant-loop-j l = Turns l.l l.edges l.orders l.initial.out l.initial.work l.out l.work l.j
