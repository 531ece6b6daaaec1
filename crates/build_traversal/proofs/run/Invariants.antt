-- `build_traversal::run` meets its contract. A turn tries the next entry of the row at the top, and lowers s or enters it, or, where none is left, leaves the
-- vertex of the top frame: one step of the machine each. Where no frame is open and no root is left, nothing is left to do.
use Rattle.build_traversal.proofs.Frames.{to_go}
use Rattle.build_traversal.proofs.Going.{Going}
use Rattle.build_traversal.proofs.run.Given as goal

abbrev pub invariant-loop-e : goal.invariant-loop-e
invariant-loop-e l = Going l.initial.work l.work l.rows.starts l.rows.values l.rows.c l.roots l.q l.rows.k l.base l.d l.k l.s l.e l.at l.end

abbrev pub decreases-loop-e : goal.decreases-loop-e
decreases-loop-e l = to_go l.work l.base l.rows.k l.rows.c l.q l.d l.e
