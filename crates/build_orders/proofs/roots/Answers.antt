-- `build_orders::roots` meets its contract, by the invariant beside this file.
use native.Mathlib.Omega.{arith}
use Rattle.build_orders.proofs.Rooting.{Place, rooting_none, rooting_place, rooting_more, rooting_past, rooting_all}
use Rattle.build_orders.proofs.roots.Goals as goal
use Rattle.build_orders.proofs.roots.Goals.{In-loop-j, then-work-starts, else-work-starts}

-- the place at hand
place : (c : In-loop-j) → let a = c.args in
    Place c.loop-j.work a.starts a.sequence c.loop-j.j
place c = rooting_place c.requires c.loop-j.invariant c.loop-j-test.true

pub loop-j-init : goal.loop-j-init
loop-j-init c = rooting_none _ _ _ _ _

pub bounds-work-starts : goal.bounds-work-starts
bounds-work-starts c = (place (goal.at.bounds-work-starts c).In-loop-j).end_in

pub bounds-work-starts-in-loop-j : goal.bounds-work-starts-in-loop-j
bounds-work-starts-in-loop-j c = (place (goal.at.bounds-work-starts-in-loop-j c).In-loop-j).start_in_lem

pub loop-j-preserved : goal.loop-j-preserved
loop-j-preserved c =
    let f = c.requires in
    let i = c.loop-j.invariant in
    let h = c.loop-j-test.true in
    elim c.if-work-starts.branch [
      | then-work-starts w ↦ rooting_more f i h w.if-work-starts.true w.work-is w.c-is
      | else-work-starts w ↦ rooting_past f i h w.if-work-starts.false w.work-is w.c-is
    ]

pub shape_of-work : goal.shape_of-work
shape_of-work c = c.loop-j.invariant.written.kept.long

pub returns : goal.returns
returns c = let both = rooting_all (omega arith) c.loop-j.invariant in record { kept = both.0; upper_bound = both.1.0; result_after = both.1.1 }
