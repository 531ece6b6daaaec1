-- `ask_intervals::judge` meets its contract. Outer loop: none of the labellings before l decides. Inner loop: none of the bounds before b decides in labelling l. A
-- bound that decides makes labelling l the first; where none does, labelling l decides neither way.
use mathlib.Core.Path.{◌≡◌}
use mathlib.Core.Bool.{true}
use Prim.Native.Nat.{ℕ, ◌<◌}
use Rattle.ask_intervals.specs.declared.Judged.TheVariants.{Neither}
use Rattle.ask_intervals.specs.Intervals.{undecided_by}
use Rattle.ask_intervals.proofs.Labellings.{Judging}
use Rattle.ask_intervals.proofs.judge.Given as goal

abbrev pub invariant-loop-b : goal.invariant-loop-b
invariant-loop-b l = (l.told ≡ Neither) × ((j : ℕ) → j < l.b → undecided_by l.labels.width l.triples l.x l.t j ≡ true)

abbrev pub invariant-labellings : goal.invariant-labellings
invariant-labellings l = (l.told ≡ Neither) × Judging l.labels.width l.labels.k l.labels.bytes.now l.x l.t l.labels.d l.l
