-- `build_indexed::write_labels` meets its contract, by the invariant beside this file.
use mathlib.Core.Path.{◌≡◌, ap}
use Prim.Native.Nat.{ℕ, ◌+◌, ◌*◌, ◌≤◌}
use native.Mathlib.Nat.{mul-le-mul}
use native.Mathlib.Omega.{arith}
use lib.ListN.{length}
use Rattle.numbers.specs.Bounds.{vertex_bound}
use Rattle.build_indexed.proofs.Turns.{turns_none, turns_ready, turns_within, turns_more, turns_all}
use Rattle.build_indexed.proofs.write_labels.Goals as goal
use Rattle.build_indexed.proofs.write_labels.Goals.{Start, In-loop-j}

-- a labelling has no more than four numbers for each group
few : (s : Start) → (s.args.l.stride + 1) * s.args.l.k ≤ 4 * vertex_bound
few s = let fit = s.requires.ready in
    let by : s.args.l.stride + 1 ≤ 4 = omega (arith, fit.stride.high) in
    let groups : s.args.l.k ≤ vertex_bound = omega (arith, fit.vertices, fit.stored.few_groups) in
    mul-le-mul by groups

pub bytes_of-step-requires : goal.bytes_of-step-requires
bytes_of-step-requires c = record { width = c.requires.ready.width; count_bound = omega (arith, few (goal.at.bytes_of-step-requires c).Start) }

pub loop-j-init : goal.loop-j-init
loop-j-init c = turns_none c.requires.ready c.args.out.now

-- where the next labelling goes
here : (c : In-loop-j) → let l = c.args.l in l.labels + c.bytes_of-step.result * c.loop-j.j ≡ l.labels + l.width * ((l.stride + 1) * l.k * c.loop-j.j)
here c = omega (arith, ap (λ (s : ℕ). s * c.loop-j.j) c.bytes_of-step.ensures.0)

-- and that it fits
within : (c : In-loop-j) → let l = c.args.l in
    l.labels + l.width * ((l.stride + 1) * l.k * c.loop-j.j) + l.width * ((l.stride + 1) * l.k) ≤ length c.args.out.now
within c = turns_within c.requires.ready c.loop-j.invariant c.requires.total_in_bounds c.loop-j-test.true

pub write_order-requires : goal.write_order-requires
write_order-requires c = let i = (goal.at.write_order-requires c).In-loop-j in record {
  ready = turns_ready c.requires.ready c.loop-j.invariant;
  j_lt_d = (omega arith, omega (arith, within i, here i, c.loop-j.invariant.long));
}

pub loop-j-preserved : goal.loop-j-preserved
loop-j-preserved c =
    turns_more c.requires.ready c.loop-j.invariant c.requires.total_in_bounds c.loop-j-test.true (here (goal.at.loop-j-preserved c).In-loop-j)
    c.write_order.auto.out c.write_order.ensures.order_labelled c.write_order.ensures.out_after

pub shape_of-out : goal.shape_of-out
shape_of-out c = c.loop-j.invariant.long

pub shape_of-work : goal.shape_of-work
shape_of-work c = c.loop-j.invariant.kept.long

pub returns : goal.returns
returns c = let both = turns_all c.requires.ready c.loop-j.invariant (omega arith) in record { order_labelled = both.0; out_after = both.1 }
