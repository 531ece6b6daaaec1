-- `sound_groups::names_pass` meets its contract. The invariant: every vertex passed has a name by the rules, and what is left of the list and of
-- the names ahead is the same exactly where the two are.
use Rattle.stored.specs.Reading.{numbers_of}
use Rattle.sound_groups.proofs.Listed.{Listed}
use Rattle.sound_groups.proofs.names_pass.Given as goal

abbrev pub invariant-loop-v : goal.invariant-loop-v
invariant-loop-v l = Listed (numbers_of l.names) (numbers_of l.groups) l.names.len l.groups.len l.v l.p
