-- `Labels::by_rank` meets its contract: the places by rank stand behind the numbers by place of their labelling.
use native.Mathlib.Omega.{arith}
use Rattle.numbers.proofs.Numbers.{part_from}
use Rattle.stored.proofs.Held.{tuples_few, labelling_fits}
use Rattle.stored.proofs.reading.Labels.by_rank.Goals as goal

pub overflow_mul-self : goal.overflow_mul-self
overflow_mul-self c = omega (arith, tuples_few c.args.self.now.held)

pub overflow_add-tuples : goal.overflow_add-tuples
overflow_add-tuples c = omega (arith, tuples_few c.args.self.now.held, c.label_count-tuples.ensures.1)

pub numbers_from-requires : goal.numbers_from-requires
numbers_from-requires c =
    record {
      width = c.args.self.now.held.width;
      count_bound = labelling_fits c.args.self.now.held _ _ _ c.requires (omega (arith, c.label_count-tuples.ensures.0, tuples_few c.args.self.now.held));
    }

pub returns : goal.returns
returns c = part_from _ _ _ _ _ _ (omega (arith, c.label_count-tuples.ensures.0)) c.numbers_from.ensures
