-- `reach_sweep::sweep` meets its contract, by the invariant beside this file.
use Prim.Native.Nat.{◌<◌}
use native.Mathlib.Omega.{arith}
use Rattle.reach_sweep.proofs.Children.{rank_low}
use Rattle.reach_sweep.proofs.Sweeping.{sweeping_marked, sweeping_passed, sweeping_all}
use Rattle.reach_sweep.proofs.sweep.Goals as goal
use Rattle.reach_sweep.proofs.sweep.Goals.{After-get-p}

-- in a turn: the place at the rank that is read
place_low : (c : After-get-p) → c.get-p.result < c.args.ranks.now.groups.rows.k
place_low c = rank_low c.args.ranks.now c.get-p.ensures.0 (omega (arith, c.requires.top_le_k))

pub loop-r-preserved-then-marks-name-eq1 : goal.loop-r-preserved-then-marks-name-eq1
loop-r-preserved-then-marks-name-eq1 c =
    sweeping_marked c.loop-r.invariant (omega arith) c.get-p.ensures.0 c.get-name.ensures.0 c.if-marks-name-eq1.true c.mark_children.ensures c.mark_children.auto.marks

pub loop-r-preserved : goal.loop-r-preserved
loop-r-preserved c = sweeping_passed c.loop-r.invariant (omega arith) c.get-p.ensures.0 c.get-name.ensures.0 c.if-marks-name-eq1.false

pub returns : goal.returns
returns c = sweeping_all c.loop-r.invariant (omega arith)
