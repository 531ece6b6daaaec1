-- `build_stripping::strip_row` meets its contract, by the invariant beside this file.
use Prim.Native.Nat.{◌+◌, ◌<◌, ◌≤◌}
use native.Mathlib.Omega.{arith}
use lib.ListN.{length, get_or}
use Rattle.build_stripping.proofs.Stripping.{room, entry_low, stripping_drop, stripping_more, stripping_all}
use Rattle.build_stripping.proofs.strip_row.Goals as goal
use Rattle.build_stripping.proofs.strip_row.Goals.{In-loop-e, then-work-stamps, else-work-stamps}

-- the entry is below k, and its stamp lies in memory
low : (c : In-loop-e) → get_or c.loop-e.work (c.args.rows.values + c.loop-e.e) 0 < c.args.rows.k
low c = entry_low c.requires c.loop-e.invariant (omega arith)

roomy : (c : In-loop-e) → c.args.out + c.args.rows.c + c.args.rows.k ≤ length c.loop-e.work
roomy c = room c.requires c.loop-e.invariant (omega arith)

pub bounds-work-stamps : goal.bounds-work-stamps
bounds-work-stamps c = omega (arith, low (goal.at.bounds-work-stamps c).In-loop-e, roomy (goal.at.bounds-work-stamps c).In-loop-e)

pub bounds-work-stamps-then-work-stamps : goal.bounds-work-stamps-then-work-stamps
bounds-work-stamps-then-work-stamps c =
    omega (arith, low (goal.at.bounds-work-stamps-then-work-stamps c).In-loop-e, roomy (goal.at.bounds-work-stamps-then-work-stamps c).In-loop-e)

pub loop-e-preserved : goal.loop-e-preserved
loop-e-preserved c =
    elim c.if-work-stamps.branch [
      | then-work-stamps w ↦ rw (w.work-is, w.n-is) (stripping_more c.requires c.loop-e.invariant (omega arith) w.if-work-stamps.true)
      | else-work-stamps w ↦ rw (w.work-is, w.n-is) (stripping_drop c.requires c.loop-e.invariant (omega arith) w.if-work-stamps.false)
    ]

pub returns : goal.returns
returns c =
    let both = stripping_all c.requires (omega arith) c.loop-e.invariant in
    record { kept = both.0; upper_bound = both.1.0; result_after = both.1.1.0; by_index = both.1.1.1 }
