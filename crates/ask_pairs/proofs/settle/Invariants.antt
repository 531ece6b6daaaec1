-- `ask_pairs::settle` meets its contract. The invariant: the marks passed are settled, and the others are as they were.
use Rattle.ask_pairs.proofs.Settling.{Settled}
use Rattle.ask_pairs.proofs.settle.Given as goal

abbrev pub invariant-loop-mark : goal.invariant-loop-mark
invariant-loop-mark l = Settled l.stamp l.initial.marks l.marks l.mark-index
