-- `reach_climb::climb` meets its contract, by the invariant beside this file.
use native.Mathlib.Omega.{arith}
use Rattle.reach_climb.proofs.Climbing.{climbing_none, climbing_marked, climbing_passed}
use Rattle.reach_climb.proofs.climb.Goals as goal
use Rattle.reach_climb.proofs.climb.Goals.{then-is_some, else-is_some}

pub loop-r-init : goal.loop-r-init
loop-r-init c = climbing_none _ _ _ _

pub loop-r-preserved : goal.loop-r-preserved
loop-r-preserved c =
    elim c.if-is_some.branch [
      | then-is_some w ↦ rw w.marks-is (climbing_marked c.loop-r.invariant (omega arith) c.get-p.ensures.0 c.lowest_marked.ensures c.is_some.ensures w.if-is_some.true
          w.get-name.ensures.0)
      | else-is_some w ↦ rw w.marks-is (climbing_passed c.loop-r.invariant (omega arith) c.get-p.ensures.0 c.lowest_marked.ensures c.is_some.ensures w.if-is_some.false)
    ]
