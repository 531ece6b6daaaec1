-- `matrix_read::good_entries` meets its contract. The invariant: the entries passed, and those that still stand first behind them, are the run of them.
use Rattle.matrix_read.proofs.Entries.{Passing}
use Rattle.matrix_read.proofs.good_entries.Given as goal

abbrev pub invariant-loop-i : goal.invariant-loop-i
invariant-loop-i l = Passing l.text l.at l.n l.most l.i l.p
