-- `build_orders::ranked` meets its contract. The invariant: of the vertices passed those that are their own name are written, as places.
use Rattle.build_orders.proofs.Ranking.{Ranking}
use Rattle.build_orders.proofs.ranked.Given as goal

abbrev pub invariant-loop-j : goal.invariant-loop-j
invariant-loop-j l = Ranking l.orders l.initial.work l.work l.at l.n l.names l.base l.j l.k
