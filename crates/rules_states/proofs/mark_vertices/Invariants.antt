-- `rules_states::mark_vertices` meets its contract. The invariant: the first v marks are those of their vertices, and the later ones are as they were lent.
use mathlib.Core.Path.{◌≡◌}
use Rattle.stored.specs.Reading.{numbers_of}
use Rattle.rules_states.specs.Marks.{marks_of, group_mark}
use Rattle.rules_states.proofs.mark_vertices.Given as goal

abbrev pub invariant-loop-v : goal.invariant-loop-v
invariant-loop-v l = l.marks ≡ marks_of l.v (group_mark (numbers_of l.names) l.initial.marks) l.initial.marks
