-- `stored::parts::children_of` meets its contract: from child start to next child start.
use native.Mathlib.Omega.{arith}
use Prim.Native.Nat.{◌+◌}
use Rattle.numbers.proofs.Numbers.{count_low}
use Rattle.stored.proofs.Held.{children_fit, children_from_lem}
use Rattle.stored.proofs.parts.children_of.Goals as goal

pub overflow_add-p : goal.overflow_add-p
overflow_add-p c = omega (arith, count_low c.args.w (c.args.p + 1) c.requires.width.low, c.requires.w_in_bounds)

pub numbers_from-requires : goal.numbers_from-requires
numbers_from-requires c =
    record {
      width = c.requires.width;
      count_bound = children_fit _ _ _ _ _ c.num-start.ensures.0 c.num-next.ensures.0 _ c.requires.p_bound c.num-next.ensures.1 c.requires.p_in_bounds;
    }

pub returns : goal.returns
returns c = children_from_lem _ _ _ _ _ c.num-start.ensures.0 c.num-next.ensures.0 _ _ c.numbers_from.ensures
