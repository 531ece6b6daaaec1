-- `matrix_write::put_entries` meets its contract, by the invariant beside this file.
use native.Mathlib.Omega.{arith}
use Rattle.lineage.specs.Graph.{Graph}
use Rattle.build_orders.specs.Input.{graph_of}
use Rattle.matrix_write.proofs.Entries.{ends_fit, entered_begins, entered_turns}
use Rattle.matrix_write.proofs.put_entries.Goals as goal
use Rattle.matrix_write.proofs.put_entries.Goals.{Start}

abbrev graph : (s : Start) → Graph
graph s = graph_of s.args.n s.args.sources.now s.args.targets.now

pub loop-i-init : goal.loop-i-init
loop-i-init c = entered_begins _ _ _ _

pub file_number-requires : goal.file_number-requires
file_number-requires c = omega (arith, ends_fit (graph (goal.at.file_number-requires c).Start) c.requires.lines c.loop-i.i c.loop-i-test.true)

pub file_number-requires-in-loop-i : goal.file_number-requires-in-loop-i
file_number-requires-in-loop-i c = omega (arith, ends_fit (graph (goal.at.file_number-requires-in-loop-i c).Start) c.requires.lines c.loop-i.i c.loop-i-test.true)

pub loop-i-preserved : goal.loop-i-preserved
loop-i-preserved c = entered_turns c.loop-i.invariant c.requires.lines.ends.paired c.requires.targets_in_bounds c.loop-i-test.true c.file_number.ensures c.file_number-in-loop-i.ensures c.put_row-p.ensures
