-- `build_traversal::run` meets its contract, by the invariant beside this file.
use mathlib.Core.Path.{◌≡◌, refl, ◌∙◌}
use Prim.Native.Nat.{ℕ, suc, ◌+◌, ◌*◌, ◌-◌, ◌^◌, ◌≤◌, ◌<◌}
use native.Mathlib.Omega.{arith}
use lib.ListN.{length, get_or}
use Rattle.build_traversal.proofs.Regions.{end_sliced}
use Rattle.build_traversal.proofs.Frames.{in_less, out_less, room_now, entry_inside, next_fits, entry_low, past_less, end_fits}
use Rattle.build_traversal.proofs.Going.{going_none, going_past, space, fewer_now, going_in, leave_fits, kept_out, frames_same, no_more, going_out, held}
use Rattle.build_traversal.proofs.Ended.{ended}
use Rattle.build_traversal.proofs.run.Goals as goal
use Rattle.build_traversal.proofs.run.Goals.{At-loop-e, Then-d-gt0, Then-e-end, Then-mark-eq0}

-- the next entry: it lies in memory, it is a vertex, and the place behind it fits
abbrev vertex : (c : Then-e-end) → ℕ
vertex c = get_or c.loop-e.work (c.loop-e.at + c.loop-e.e) 0

inside : (c : Then-e-end) → c.loop-e.at + c.loop-e.e < length c.loop-e.work
inside c = entry_inside c.requires.traverse_fit c.loop-e.invariant.frames c.if-e-end.true

vertex_low : (c : Then-e-end) → vertex c < c.args.rows.k
vertex_low c = entry_low c.requires.traverse_fit c.loop-e.invariant.frames c.if-e-end.true

small : (c : Then-e-end) → c.loop-e.e + 1 < 2 ^ 32
small c = next_fits c.requires.traverse_fit c.loop-e.invariant.frames c.if-e-end.true

room : (c : At-loop-e) → c.args.base + 7 * c.args.rows.k ≤ length c.loop-e.work
room c = room_now c.requires.traverse_fit c.loop-e.invariant.frames

-- it is new: there is a frame for it
frame : (c : Then-mark-eq0) → c.loop-e.d + c.loop-e.k < c.args.rows.k
frame c = space c.requires.traverse_fit c.loop-e.invariant c.if-e-end.true c.if-mark-eq0.true

-- where the row of the vertex entered lies
row_fits : (c : Then-e-end) → c.args.rows.starts + vertex c + 1 < length c.args.work.now
row_fits c = omega (arith, vertex_low c, c.requires.traverse_fit.starts_there.fits)

-- the top frame
top : (c : Then-d-gt0) → c.loop-e.d ≡ suc (c.loop-e.d - 1)
top c = omega arith

both : (c : At-loop-e) → c.loop-e.d + c.loop-e.k ≤ c.args.rows.k
both c = held c.requires.traverse_fit c.loop-e.invariant

pub loop-e-init : goal.loop-e-init
loop-e-init c = going_none c.requires.traverse_fit

pub bounds-work-at : goal.bounds-work-at
bounds-work-at c = inside (goal.at.bounds-work-at c).Then-e-end

pub bounds-work-base : goal.bounds-work-base
bounds-work-base c = omega (arith, vertex_low (goal.at.bounds-work-base c).Then-e-end, room (goal.at.bounds-work-base c).At-loop-e)

pub overflow_cast-frame : goal.overflow_cast-frame
overflow_cast-frame c = omega (arith, small (goal.at.overflow_cast-frame c).Then-e-end)

pub enter-requires : goal.enter-requires
enter-requires c =
    let h1 = frame (goal.at.enter-requires c).Then-mark-eq0 in
    let h2 = vertex_low (goal.at.enter-requires c).Then-e-end in
    let h3 = room (goal.at.enter-requires c).At-loop-e in
    record {
      n_in_bounds = omega (arith, c.requires.traverse_fit.few);
      v_lt_n = omega (arith, c.requires.traverse_fit.few);
      k_bound = omega (arith, c.requires.traverse_fit.few);
      n_bound = omega (arith, c.requires.traverse_fit.few);
    }

pub bounds-work-rows : goal.bounds-work-rows
bounds-work-rows c = omega (arith, row_fits (goal.at.bounds-work-rows c).Then-e-end, c.loop-e.invariant.frames.kept.long, c.enter.auto.work)

pub bounds-work-rows-then-mark-eq0 : goal.bounds-work-rows-then-mark-eq0
bounds-work-rows-then-mark-eq0 c =
    omega (arith, row_fits (goal.at.bounds-work-rows-then-mark-eq0 c).Then-e-end, c.loop-e.invariant.frames.kept.long, c.enter.auto.work)

pub loop-e-smaller-then-mark-eq0 : goal.loop-e-smaller-then-mark-eq0
loop-e-smaller-then-mark-eq0 c =
    in_less _ _ _ _ _ _ _ _ (fewer_now c.requires.traverse_fit c.loop-e.invariant c.if-e-end.true c.if-mark-eq0.true c.enter.ensures) _

pub loop-e-preserved-then-mark-eq0 : goal.loop-e-preserved-then-mark-eq0
loop-e-preserved-then-mark-eq0 c = going_in c.requires.traverse_fit c.loop-e.invariant c.if-e-end.true c.if-mark-eq0.true c.enter.ensures

pub loop-e-smaller-else-mark-eq0 : goal.loop-e-smaller-else-mark-eq0
loop-e-smaller-else-mark-eq0 c = past_less c.requires.traverse_fit c.loop-e.invariant.frames c.if-e-end.true

pub loop-e-preserved-else-mark-eq0 : goal.loop-e-preserved-else-mark-eq0
loop-e-preserved-else-mark-eq0 c = going_past c.requires.traverse_fit c.loop-e.invariant c.if-e-end.true c.if-mark-eq0.false c.min-s.ensures

pub leave-requires : goal.leave-requires
leave-requires c =
    let h1 = leave_fits c.requires.traverse_fit c.loop-e.invariant c.if-e-end.false _ (top (goal.at.leave-requires c).Then-d-gt0) in
    let h2 = room (goal.at.leave-requires c).At-loop-e in
    record {
      n_in_bounds = omega (arith, c.requires.traverse_fit.few);
      k_bound = omega (arith, c.requires.traverse_fit.few);
      d_bound = omega (arith, c.requires.traverse_fit.few);
      n_bound = omega (arith, c.requires.traverse_fit.few);
    }

pub row_end-end-requires : goal.row_end-end-requires
row_end-end-requires c =
    let fit = c.requires.traverse_fit in
    let over = c.if-e-end.false in
    let same = frames_same fit c.loop-e.invariant over _ (top (goal.at.row_end-end-requires c).Then-d-gt0) c.min-s-then-d-gt0.ensures c.leave.ensures in
    let both = end_fits fit c.loop-e.invariant.frames over _ (top (goal.at.row_end-end-requires c).Then-d-gt0)
    (omega (arith, both (goal.at.row_end-end-requires c).At-loop-e))
    (kept_out fit c.loop-e.invariant over _ (top (goal.at.row_end-end-requires c).Then-d-gt0) c.min-s-then-d-gt0.ensures c.leave.ensures)
    (same _ (omega arith) (omega arith)) (same _ (omega arith) (omega arith)) (same _ (omega arith) (omega arith)) (omega arith) (omega arith) in
    record { d_in_bounds = both.0; by_index = both.1 }

pub loop-e-smaller : goal.loop-e-smaller
loop-e-smaller c =
    out_less _ _ _ _ _ _ _ _ _ (top (goal.at.loop-e-smaller c).Then-d-gt0)
    (no_more c.requires.traverse_fit c.loop-e.invariant c.if-e-end.false _ (top (goal.at.loop-e-smaller c).Then-d-gt0) c.min-s-then-d-gt0.ensures
    c.leave.ensures) _

pub loop-e-preserved : goal.loop-e-preserved
loop-e-preserved c =
    let place : ℕ = c.args.base + 2 * c.args.rows.k + (c.loop-e.d - 1) in
    let fits : get_or c.leave.new.work place 0 < 2 ^ 32 = omega arith in
    going_out c.requires.traverse_fit c.loop-e.invariant c.if-e-end.false _ (top (goal.at.loop-e-preserved c).Then-d-gt0) c.min-s-then-d-gt0.ensures
    c.leave.ensures c.min-s-then-d-gt0-2.ensures refl fits c.row_place-at.ensures
    (c.row_end-end.ensures ∙ end_sliced c.leave.new.work c.args.rows.starts c.args.base c.args.rows.k c.args.q (c.loop-e.d - 1) (omega arith) (omega arith))

pub returns-else-d-gt0 : goal.returns-else-d-gt0
returns-else-d-gt0 c =
    let both = ended c.requires.traverse_fit c.loop-e.invariant c.requires.n_value (omega arith) c.if-e-end.false in
    record { kept = both.0; traversed = both.1 }
