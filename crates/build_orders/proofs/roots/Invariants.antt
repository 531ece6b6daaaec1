-- `build_orders::roots` meets its contract. The invariant: of the places passed those whose row is empty are written.
use Rattle.build_orders.proofs.Rooting.{Rooting}
use Rattle.build_orders.proofs.roots.Given as goal

abbrev pub invariant-loop-j : goal.invariant-loop-j
invariant-loop-j l = Rooting l.initial.work l.work l.starts l.k l.sequence l.base l.j l.c
