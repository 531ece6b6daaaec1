-- `sound_parents::mark_children` meets its contract. The invariant: marking the entries ahead gives what marking them all gives.
use Rattle.stored.specs.Reading.{numbers_of}
use Rattle.numbers.proofs.Marks.{Marking}
use Rattle.sound_parents.proofs.mark_children.Given as goal

abbrev pub invariant-loop-j : goal.invariant-loop-j
invariant-loop-j l = Marking (numbers_of l.children) l.initial.marks l.j l.marks
