-- `exceptions_all::ask_each` meets its contract. The invariant: the answers hold three numbers for each pair passed.
use lib.ListN.{length}
use Rattle.exceptions_all.specs.Pairs.{by_place}
use Rattle.exceptions_all.proofs.Pairs.{Asking}
use Rattle.exceptions_all.proofs.ask_each.Given as goal

abbrev pub invariant-loop-i : goal.invariant-loop-i
invariant-loop-i l = Asking (length l.places) (by_place l.labels l.lists l.places) l.sources l.targets l.initial.answers l.answers l.i
