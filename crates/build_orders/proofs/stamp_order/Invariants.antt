-- `build_orders::stamp_order` meets its contract. The invariant: the words of the numbers passed are stamped.
use Rattle.numbers.proofs.Stamping.{Stamping}
use Rattle.build_orders.proofs.stamp_order.Given as goal

abbrev pub invariant-loop-j : goal.invariant-loop-j
invariant-loop-j l = Stamping l.initial.work l.work l.orders l.base l.n l.stamp l.at l.j
