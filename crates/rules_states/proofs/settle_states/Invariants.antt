-- `rules_states::settle_states` meets its contract. The invariant: the states of the first i vertices are turned.
use mathlib.Core.Path.{◌≡◌}
use lib.ListN.{take}
use Rattle.rules_states.specs.Rules.{each_state}
use Rattle.rules_states.specs.Marks.{state_by}
use Rattle.rules_states.proofs.settle_states.Given as goal

abbrev pub invariant-loop-i : goal.invariant-loop-i
invariant-loop-i l = l.states ≡ each_state (state_by l.marks l.n) (take l.i l.vertices) l.initial.states
