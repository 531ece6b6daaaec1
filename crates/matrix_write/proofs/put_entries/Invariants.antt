-- `matrix_write::put_entries` meets its contract. The invariant: the lines that are put, then those of the edges still to come, are the lines of all edges.
use Rattle.matrix_write.proofs.Entries.{Entered}
use Rattle.matrix_write.proofs.put_entries.Given as goal

abbrev pub invariant-loop-i : goal.invariant-loop-i
invariant-loop-i l = Entered l.sources l.targets l.initial.out l.at l.i l.p l.out
