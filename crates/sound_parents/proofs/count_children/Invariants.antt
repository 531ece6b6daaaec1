-- `sound_parents::count_children` meets its contract. The invariant: counting the entries ahead gives what counting them all gives.
use Rattle.stored.specs.Reading.{numbers_of}
use Rattle.sound_parents.proofs.Counted.{Counting}
use Rattle.sound_parents.proofs.count_children.Given as goal

abbrev pub invariant-loop-j : goal.invariant-loop-j
invariant-loop-j l = Counting (numbers_of l.children) l.initial.marks l.j l.marks
