-- `numbers::copy_numbers` meets its contract, by the invariant beside this file.
use mathlib.Core.Path.{◌≡◌, ap, ◌∙◌}
use Prim.Native.Nat.{◌+◌, ◌*◌, ◌≤◌}
use native.Mathlib.Omega.{arith}
use lib.ListN.{length}
use Rattle.numbers.proofs.Numbers.{room}
use Rattle.numbers.proofs.Written.{numbers_put, numbers_none, numbers_more}
use Rattle.numbers.proofs.copy_numbers.Goals as goal
use Rattle.numbers.proofs.copy_numbers.Goals.{In-loop-i}

-- the next number stands in the part, and fits
standing : (c : In-loop-i) → c.args.w * c.loop-i.i + c.args.w ≤ length c.args.from.now
standing c = let a = c.args in room a.w c.loop-i.i a.count (length a.from.now) (omega arith) (omega arith)

within : (c : In-loop-i) → c.args.at + c.args.v * c.loop-i.i + c.args.v ≤ length c.args.out.now
within c = let a = c.args in
    omega (arith, room a.v c.loop-i.i a.count (a.v * a.count) (omega arith) (omega arith))

pub loop-i-init : goal.loop-i-init
loop-i-init c =
    let a = c.args in
    (omega arith, (omega arith, numbers_none a.v a.at a.w a.from.now a.out.now))

pub num-requires : goal.num-requires
num-requires c = record { width = c.requires.width_2; w_in_bounds = standing (goal.at.num-requires c).In-loop-i }

pub put_at-requires : goal.put_at-requires
put_at-requires c = record { width = c.requires.width; w_in_bounds = omega (arith, within (goal.at.put_at-requires c).In-loop-i) }

pub overflow_add-p : goal.overflow_add-p
overflow_add-p c = omega (arith, within (goal.at.overflow_add-p c).In-loop-i)

pub loop-i-preserved : goal.loop-i-preserved
loop-i-preserved c =
    let a = c.args in
    let l = c.loop-i in (
      omega arith,
      (
        omega arith,
        c.put_at.ensures
            ∙ numbers_more a.v a.at a.w a.from.now a.out.now l.out l.p l.i _
            l.invariant.1.1
            l.invariant.0
            c.num.ensures.0
            (within (goal.at.loop-i-preserved c).In-loop-i),
      ),
    )

pub shape_of-out : goal.shape_of-out
shape_of-out c = c.loop-i.invariant.1.0

pub returns : goal.returns
returns c =
    let a = c.args in
    c.loop-i.invariant.1.1 ∙ ap (numbers_put a.v a.at a.w a.from.now a.out.now) (let e : c.loop-i.i ≡ a.count = omega arith in e)
