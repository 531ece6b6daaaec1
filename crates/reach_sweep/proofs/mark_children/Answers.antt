-- `reach_sweep::mark_children` meets its contract, by the invariant beside this file.
use Prim.Native.Nat.{◌<◌}
use native.Mathlib.Omega.{arith}
use Rattle.reach_sweep.proofs.Children.{child_low}
use Rattle.reach_sweep.proofs.Marking.{row_more, row_all}
use Rattle.reach_sweep.proofs.mark_children.Goals as goal
use Rattle.reach_sweep.proofs.mark_children.Goals.{After-get-q}

-- the child that was read is a place
place_low : (c : After-get-q) → c.get-q.result < c.args.groups.now.rows.k
place_low c = child_low c.args.groups.now c.requires.p_lt_k (omega (arith, c.row-row.ensures.1.0)) (rw c.row-row.ensures.0 at c.get-q.ensures.0)

pub get-name-requires : goal.get-name-requires
get-name-requires c = omega (arith, place_low (goal.at.get-name-requires c).After-get-q, c.args.groups.now.many)

pub bounds-marks-name : goal.bounds-marks-name
bounds-marks-name c = omega (arith, c.requires.spots.name_low _ (place_low (goal.at.bounds-marks-name c).After-get-q), c.get-name.ensures.0, c.loop-i.invariant.long)

pub loop-i-preserved : goal.loop-i-preserved
loop-i-preserved c =
    row_more _ _ c.loop-i.invariant (omega (arith, c.row-row.ensures.1.0)) (rw c.row-row.ensures.0 at c.get-q.ensures.0) c.get-name.ensures.0

pub returns : goal.returns
returns c = row_all _ _ c.loop-i.invariant (omega (arith, c.row-row.ensures.1.0))
