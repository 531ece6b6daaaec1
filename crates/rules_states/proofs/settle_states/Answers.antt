-- `rules_states::settle_states` meets its contract, by the invariant beside this file.
use native.Mathlib.Omega.{arith}
use Rattle.rules_states.proofs.States.{each_more, each_all}
use Rattle.rules_states.proofs.settle_states.Goals as goal

pub loop-i-preserved : goal.loop-i-preserved
loop-i-preserved c = each_more _ _ _ _ (omega arith) (omega arith) c.loop-i.invariant c.state_after.ensures

pub returns : goal.returns
returns c = each_all _ c.loop-i.i c.args.vertices.now c.args.states.now (omega arith) c.loop-i.invariant
