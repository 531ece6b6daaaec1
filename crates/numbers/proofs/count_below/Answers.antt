-- `numbers::count_below` meets its contract, by the invariant beside this file.
use native.Mathlib.Omega.{arith}
use Rattle.numbers.proofs.Numbers.{room, count_over, count_under}
use Rattle.numbers.proofs.count_below.Goals as goal

pub loop-from-init : goal.loop-from-init
loop-from-init c = c.requires.low_bound

pub num-requires : goal.num-requires
num-requires c = record { width = c.requires.width; w_in_bounds = room _ _ _ _ (omega arith) c.requires.k_in_bounds }

pub loop-from-preserved-then-num-x : goal.loop-from-preserved-then-num-x
loop-from-preserved-then-num-x c =
    let over = count_over _ _ _ _ c.requires.rises _ _ (omega arith) c.num.ensures.0 c.if-num-x.true in
    (omega (arith, over), (omega arith, omega arith))

pub loop-from-preserved : goal.loop-from-preserved
loop-from-preserved c = (omega arith, (count_under _ _ _ _ c.requires.rises _ _ (omega arith) c.num.ensures.0 c.if-num-x.false, omega arith))
