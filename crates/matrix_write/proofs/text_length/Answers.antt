-- `matrix_write::text_length` meets its contract, by the invariant beside this file.
use native.Mathlib.Omega.{arith}
use Rattle.lineage.specs.Graph.{Graph}
use Rattle.build_orders.specs.Input.{graph_of}
use Rattle.matrix_write.proofs.Entries.{ends_fit, counted_begins}
use Rattle.matrix_write.proofs.text_length.Goals as goal
use Rattle.matrix_write.proofs.text_length.Goals.{Start}

abbrev graph : (s : Start) → Graph
graph s = graph_of s.args.n s.args.sources.now s.args.targets.now

pub loop-edge-init : goal.loop-edge-init
loop-edge-init c = counted_begins (graph (goal.at.loop-edge-init c).Start) c.requires c.front_length-size.ensures.0

pub file_number-requires : goal.file_number-requires
file_number-requires c = omega (arith, ends_fit (graph (goal.at.file_number-requires c).Start) c.requires c.loop-edge.edge c.loop-edge-test.true)

pub file_number-requires-in-loop-edge : goal.file_number-requires-in-loop-edge
file_number-requires-in-loop-edge c = omega (arith, ends_fit (graph (goal.at.file_number-requires-in-loop-edge c).Start) c.requires c.loop-edge.edge c.loop-edge-test.true)
