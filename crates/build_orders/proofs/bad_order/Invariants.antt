-- `build_orders::bad_order` meets its contract. The invariant: no order passed is bad, and the words are at most the number of orders passed, so the next stamp
-- is new to all of them.
use Rattle.build_orders.proofs.Permutations.{Tried}
use Rattle.build_orders.proofs.bad_order.Given as goal

abbrev pub invariant-loop-i : goal.invariant-loop-i
invariant-loop-i l = Tried l.orders l.initial.work l.work l.base l.n l.i
