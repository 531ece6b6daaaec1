-- `rules_states::mark_changed` meets its contract. The invariant: the groups of the vertices passed are marked.
use mathlib.Core.Path.{◌≡◌}
use lib.ListN.{take}
use Rattle.lineage.specs.Calls.{index_in}
use Rattle.rules_states.specs.Marks.{mark_each}
use Rattle.rules_states.proofs.mark_changed.Given as goal

abbrev pub invariant-loop-v : goal.invariant-loop-v
invariant-loop-v l = l.marks ≡ mark_each (index_in l.index.image.bytes.now) (take l.v-index l.changed) l.initial.marks
