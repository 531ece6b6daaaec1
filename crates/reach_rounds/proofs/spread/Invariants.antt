-- `reach_rounds::spread` meets its contract. The invariant: spreading over the edges that are left comes to spreading over all.
use Rattle.stored.specs.Reading.{numbers_of}
use Rattle.reach_rounds.proofs.Spreading.{Spreading}
use Rattle.reach_rounds.proofs.spread.Given as goal

abbrev pub invariant-loop-i : goal.invariant-loop-i
invariant-loop-i l = Spreading (numbers_of l.names) l.sources l.targets l.i l.initial.marks l.marks l.changed
