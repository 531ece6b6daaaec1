-- `build_orders::bad_order` meets its contract, by the invariant beside this file.
use mathlib.Core.Path.{refl}
use mathlib.Core.List.{List}
use Prim.Native.Nat.{ℕ, ◌+◌, ◌-◌, ◌*◌, ◌≤◌}
use native.Mathlib.Omega.{arith}
use lib.ListN.{length, take, drop}
use Rattle.numbers.specs.Regions.{Kept, Part}
use Rattle.numbers.proofs.Regions.{kept_then, slice_part}
use Rattle.numbers.proofs.Found.{found_here, found_nowhere}
use Rattle.build_orders.proofs.Permutations.{order_room, tried_none, tried_bad, tried_more}
use Rattle.build_orders.proofs.bad_order.Goals as goal
use Rattle.build_orders.proofs.bad_order.Goals.{At-loop-i, In-loop-i}

room : (l : At-loop-i) → l.args.base + l.args.n ≤ length l.loop-i.work
room l = omega (arith, l.clear_part.ensures.kept.long, l.loop-i.invariant.kept.long)

-- the slice that is searched for a word without the stamp
slice : (l : At-loop-i) {work : List ℕ} → Kept l.loop-i.work work l.args.base l.args.n
    → Part work l.args.base l.args.n (take (l.args.base + l.args.n - l.args.base) (drop l.args.base work))
slice l {work} k = slice_part work l.args.base l.args.n refl (omega (arith, room l, k.long))

inside : (c : In-loop-i) → let a = c.args in c.loop-i.i * a.n + a.n ≤ length a.orders.now
inside c = omega (arith, order_room c.loop-i.i c.args.d c.args.n c.loop-i-test.true)

pub loop-i-init : goal.loop-i-init
loop-i-init c = tried_none _ _ _ _ c.clear_part.ensures.n_after

pub stamp_order-requires : goal.stamp_order-requires
stamp_order-requires c = record {
  n_in_bounds = inside (goal.at.stamp_order-requires c).In-loop-i;
  n_in_bounds_2 = room (goal.at.stamp_order-requires c).At-loop-i;
}

pub returns-then-one_lacks : goal.returns-then-one_lacks
returns-then-one_lacks c =
    let s = c.stamp_order in
    record {
      value = found_here c.args.d c.loop-i.invariant.passed (omega arith)
          (tried_bad (room (goal.at.returns-then-one_lacks c).At-loop-i) c.loop-i.invariant s.ensures.kept s.ensures.stamped
          (slice (goal.at.returns-then-one_lacks c).At-loop-i s.ensures.kept) _ c.one_lacks.ensures
          c.if-one_lacks.true);
      kept = kept_then c.clear_part.ensures.kept (kept_then c.loop-i.invariant.kept s.ensures.kept);
    }

pub loop-i-preserved : goal.loop-i-preserved
loop-i-preserved c =
    let s = c.stamp_order in
    tried_more (room (goal.at.loop-i-preserved c).At-loop-i) c.loop-i.invariant s.ensures.kept s.ensures.stamped
    (slice (goal.at.loop-i-preserved c).At-loop-i s.ensures.kept) _ c.one_lacks.ensures
    c.if-one_lacks.false

pub returns : goal.returns
returns c = record {
  value = found_nowhere c.args.d c.loop-i.invariant.passed (omega arith);
  kept = kept_then c.clear_part.ensures.kept c.loop-i.invariant.kept;
}
