-- `rules_states::state_after` meets its contract: the vertex is no vertex, or its mark tells.
use Rattle.rules_states.proofs.States.{state_out, state_marked, state_kept}
use Rattle.rules_states.proofs.state_after.Goals as goal

pub returns-then-n-v : goal.returns-then-n-v
returns-then-n-v c = state_out _ _ _ _ c.if-n-v.true

pub returns-then-marks-v-eq1 : goal.returns-then-marks-v-eq1
returns-then-marks-v-eq1 c = state_marked _ _ _ _ c.if-n-v.false c.if-marks-v-eq1.true

pub returns : goal.returns
returns c = state_kept _ _ _ _ c.if-n-v.false c.if-marks-v-eq1.false
