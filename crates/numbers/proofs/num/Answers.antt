-- `numbers::num` meets its contract. At width 2 the number is one pair of bytes; at width 4 it is two pairs, the second 65,536 times as heavy.
use Prim.Native.Nat.{◌+◌, ◌*◌, ◌≤◌}
use native.Mathlib.Omega.{arith}
use lib.ListN.{length}
use Rattle.numbers.proofs.Numbers.{room_at, num_two, num_four}
use Rattle.numbers.proofs.num.Goals as goal
use Rattle.numbers.proofs.num.Goals.{Else-w-eq2, Then-w-eq2}

-- the room for a pair at width 2, and for two at width 4
two : (c : Then-w-eq2) → 2 * c.args.i + 2 ≤ length c.args.s.now
two c = room_at _ _ _ _ c.if-w-eq2.true c.requires.w_in_bounds

four : (c : Else-w-eq2) → 4 * c.args.i + 4 ≤ length c.args.s.now
four c = room_at _ _ _ _ (omega (arith, c.requires.width)) c.requires.w_in_bounds

pub overflow_mul-i : goal.overflow_mul-i
overflow_mul-i c = record { fits = omega (arith, two (goal.at.overflow_mul-i c).Then-w-eq2) }

pub pair-requires : goal.pair-requires
pair-requires c = two (goal.at.pair-requires c).Then-w-eq2

pub returns-then-w-eq2 : goal.returns-then-w-eq2
returns-then-w-eq2 c = (num_two _ _ _ _ c.if-w-eq2.true c.pair.ensures.0, omega arith)

pub overflow_mul-p : goal.overflow_mul-p
overflow_mul-p c = record { fits = omega (arith, four (goal.at.overflow_mul-p c).Else-w-eq2) }

pub pair-requires-2 : goal.pair-requires-2
pair-requires-2 c = omega (arith, four (goal.at.pair-requires-2 c).Else-w-eq2)

pub overflow_add-p : goal.overflow_add-p
overflow_add-p c = record { fits = omega (arith, four (goal.at.overflow_add-p c).Else-w-eq2) }

pub pair-requires-3 : goal.pair-requires-3
pair-requires-3 c = omega (arith, four (goal.at.pair-requires-3 c).Else-w-eq2)

pub returns : goal.returns
returns c = (num_four _ _ _ _ _ (omega (arith, c.requires.width)) c.pair-2.ensures.0 c.pair-3.ensures.0, omega arith)
