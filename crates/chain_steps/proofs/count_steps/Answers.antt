-- `chain_steps::count_steps` meets its contract, by the invariant beside this file.
use mathlib.Core.Path.{◌≡◌}
use native.Mathlib.Omega.{arith}
use Rattle.chain_steps.specs.Steps.{next_in}
use Rattle.chain_steps.proofs.Steps.{level_left, child_found, child_next, counting_next, counting_all}
use Rattle.chain_steps.proofs.count_steps.Goals as goal
use Rattle.chain_steps.proofs.count_steps.Goals.{After-unwrap-place}

chosen : (c : After-unwrap-place) → (let a = c.args in c.unwrap-place.result ≡ next_in a.groups.now a.marks.now c.loop-place.place)
chosen c = child_next c.args.groups.now c.args.marks.now c.loop-place.invariant.trail c.loop-place-test.true c.lowest_marked.ensures c.unwrap-place.ensures

pub unwrap-place-requires : goal.unwrap-place-requires
unwrap-place-requires c = child_found c.args.groups.now c.args.marks.now c.loop-place.invariant.trail c.loop-place-test.true c.lowest_marked.ensures

pub loop-place-preserved : goal.loop-place-preserved
loop-place-preserved c = counting_next c.loop-place.invariant c.loop-place-test.true (chosen (goal.at.loop-place-preserved c).After-unwrap-place)
    (omega (arith, level_left c.loop-place.invariant.trail c.loop-place-test.true))

pub returns : goal.returns
returns c = counting_all c.loop-place.invariant c.loop-place-test.false
