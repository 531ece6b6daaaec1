-- `build_orders::stamp_order` meets its contract, by the invariant beside this file.
use native.Mathlib.Omega.{arith}
use Rattle.numbers.proofs.Stamping.{stamping_none, stamping_more, stamping_past, stamping_all}
use Rattle.build_orders.proofs.stamp_order.Goals as goal
use Rattle.build_orders.proofs.stamp_order.Goals.{then-v-n, else-v-n}

pub loop-j-init : goal.loop-j-init
loop-j-init c = stamping_none _ _ _ _ _ _

pub loop-j-preserved : goal.loop-j-preserved
loop-j-preserved c =
    let i = c.loop-j.invariant in
    elim c.if-v-n.branch [
      | then-v-n w ↦ stamping_more (omega arith) (omega arith) i w.if-v-n.true w.work-is
      | else-v-n w ↦ stamping_past (omega arith) (omega arith) i w.if-v-n.false w.work-is
    ]

pub returns : goal.returns
returns c = let both = stamping_all _ (omega arith) c.loop-j.invariant in record { kept = both.0; stamped = both.1 }
