-- `rules_states::mark_changed` meets its contract, by the invariant beside this file.
use native.Mathlib.Omega.{arith}
use Rattle.laws.proofs.Positions.{in_get_d}
use Rattle.rules_states.proofs.Marking.{mark_none, mark_more, mark_all_lem}
use Rattle.rules_states.proofs.mark_changed.Goals as goal

pub loop-v-init : goal.loop-v-init
loop-v-init c = mark_none _ c.args.changed.now _

pub mark_group-requires : goal.mark_group-requires
mark_group-requires c = (omega (arith, c.requires.0, c.loop-v.auto.marks), c.requires.1.low _ (in_get_d c.args.changed.now c.loop-v.v-index c.loop-v-test.true))

pub loop-v-preserved : goal.loop-v-preserved
loop-v-preserved c = mark_more _ _ _ _ c.loop-v.invariant c.loop-v-test.true c.mark_group.ensures

pub returns : goal.returns
returns c = mark_all_lem _ _ _ _ c.loop-v.invariant c.loop-v-test.false
