-- `matrix_read::store_entries` meets its contract. The invariant: the ends stored, and those of the entries that are still to be read, are the ends of all.
use Rattle.matrix_read.proofs.Storing.{Storing}
use Rattle.matrix_read.proofs.store_entries.Given as goal

abbrev pub invariant-loop-i : goal.invariant-loop-i
invariant-loop-i l = Storing l.text l.at l.n l.count l.initial.sources l.initial.targets l.i l.p l.sources l.targets
