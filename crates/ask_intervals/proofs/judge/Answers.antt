-- `ask_intervals::judge` meets its contract, by the invariant beside this file.
use native.Mathlib.Omega.{arith}
use Rattle.ask_intervals.proofs.Labellings.{own_triples, is_inside, is_outside, is_neither}
use Rattle.ask_intervals.proofs.Labellings.{judging_more, judging_inside, judging_outside, judging_all}
use Rattle.ask_intervals.proofs.judge.Goals as goal

pub labellings-preserved : goal.labellings-preserved
labellings-preserved c =
    let neither = is_neither _ _ _ _ _ _ _ c.requires.x_lt_k.0 c.requires.x_lt_k.1 (own_triples _ _ _ c.requires.z_value c.tuples-triples.ensures) (λ b h. c.loop-b.invariant.1 b (omega arith)) in
    (c.loop-b.invariant.0, judging_more _ _ _ _ _ _ _ c.labellings.invariant.1 c.labellings-test.true neither)

pub returns-after-labellings : goal.returns-after-labellings
returns-after-labellings c = rw c.labellings.invariant.0 (judging_all _ _ _ _ _ _ _ c.labellings.invariant.1 c.labellings-test.false)

pub returns-then-b-eq1 : goal.returns-then-b-eq1
returns-then-b-eq1 c =
    judging_inside _ _ _ _ _ _ _ c.labellings.invariant.1 c.labellings-test.true
    (is_inside _ _ _ _ _ _ _ c.requires.x_lt_k.0 c.requires.x_lt_k.1 (own_triples _ _ _ c.requires.z_value c.tuples-triples.ensures) _ _ c.loop-b.invariant.1 c.undecided_by.ensures
    (c.if-not-undecided_by.true) c.if-b-eq1.true)

pub returns-else-b-eq1 : goal.returns-else-b-eq1
returns-else-b-eq1 c =
    judging_outside _ _ _ _ _ _ _ c.labellings.invariant.1 c.labellings-test.true
    (is_outside _ _ _ _ _ _ _ c.requires.x_lt_k.0 c.requires.x_lt_k.1 (own_triples _ _ _ c.requires.z_value c.tuples-triples.ensures) _ _ c.loop-b.invariant.1 c.undecided_by.ensures
    (c.if-not-undecided_by.true) c.loop-b-test.true c.if-b-eq1.false)
