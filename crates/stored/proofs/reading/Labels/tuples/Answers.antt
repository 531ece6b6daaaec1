-- `Labels::tuples` meets its contract: labelling j starts behind j others, and its numbers by place come first.
use native.Mathlib.Omega.{arith}
use Rattle.numbers.proofs.Numbers.{part_from}
use Rattle.stored.proofs.Held.{tuples_few, labelling_fits}
use Rattle.stored.proofs.reading.Labels.tuples.Goals as goal

pub overflow_mul-self : goal.overflow_mul-self
overflow_mul-self c = omega (arith, tuples_few c.args.self.now.held)

pub numbers_from-requires : goal.numbers_from-requires
numbers_from-requires c =
    record {
      width = c.args.self.now.held.width;
      count_bound = labelling_fits c.args.self.now.held _ _ _ c.requires (omega (arith, c.label_count-from.ensures.0, tuples_few c.args.self.now.held));
    }

pub returns : goal.returns
returns c = part_from _ _ _ _ _ _ c.label_count-from.ensures.0 c.numbers_from.ensures
