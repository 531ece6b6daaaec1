-- `exceptions_ask::is_listed` meets its contract: the list lies where its start says and rises, so halving finds where 2y would stand in it, and the number there tells.
use native.Mathlib.Omega.{arith}
use Rattle.numbers.proofs.Numbers.{count_most}
use Rattle.exceptions_ask.proofs.Listed.{listed_rises, found_nowhere, found_below, found_at}
use Rattle.exceptions_ask.proofs.is_listed.Goals as goal

pub count_below-j-requires-clause-rises : goal.count_below-j-requires-clause-rises
count_below-j-requires-clause-rises c =
    let P = c.numbers_from-list.ensures in
    listed_rises c.requires.list_in c.num-start.ensures.0 c.num.ensures.0 P

pub count_below-j-requires-clause-low_bound : goal.count_below-j-requires-clause-low_bound
count_below-j-requires-clause-low_bound c =
    let P = c.numbers_from-list.ensures in
    (omega arith, (count_most 4 _ _ _, omega arith))

pub returns-then-j-len : goal.returns-then-j-len
returns-then-j-len c = found_nowhere c.requires.list_in c.num-start.ensures.0 c.num.ensures.0 c.numbers_from-list.ensures _ c.count_below-j.ensures c.if-j-len.true

pub num-requires-2-clause-w_in_bounds : goal.num-requires-2-clause-w_in_bounds
num-requires-2-clause-w_in_bounds c =
    let P = c.numbers_from-list.ensures in
    omega (
      arith,
      P.long,
      found_below c.requires.list_in c.num-start.ensures.0 c.num.ensures.0 P c.args.y c.count_below-j.ensures c.if-j-len.false,
    )

pub returns : goal.returns
returns c = found_at c.requires.list_in c.num-start.ensures.0 c.num.ensures.0 c.numbers_from-list.ensures _ c.count_below-j.ensures c.if-j-len.false c.num-2.ensures.0
