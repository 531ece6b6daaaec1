-- `sound_groups::starts_pass` meets its contract. The invariant: no start passed falls.
use Rattle.laws.proofs.Passed.{Passed}
use Rattle.stored.specs.Reading.{numbers_of}
use Rattle.sound_groups.proofs.Starts.{not_falling}
use Rattle.sound_groups.proofs.starts_pass.Given as goal

abbrev pub invariant-loop-p : goal.invariant-loop-p
invariant-loop-p l = Passed (not_falling (numbers_of l.starts)) l.k l.p
