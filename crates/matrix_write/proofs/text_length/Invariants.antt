-- `matrix_write::text_length` meets its contract. The invariant: what is counted and the lines still to come are as long as the whole text.
use Rattle.build_orders.specs.Input.{graph_of}
use Rattle.matrix_write.proofs.Entries.{Counted}
use Rattle.matrix_write.proofs.text_length.Given as goal

abbrev pub invariant-loop-edge : goal.invariant-loop-edge
invariant-loop-edge l = Counted (graph_of l.n l.sources l.targets) l.size l.edge
