-- `reach_climb::climb` meets its contract. The invariant: the marks are those after the ranks that have had their turn.
use Rattle.stored.specs.Reading.{numbers_of}
use Rattle.reach_sweep.specs.Fit.{names_of, children_of}
use Rattle.reach_climb.proofs.Climbing.{Climbing}
use Rattle.reach_climb.proofs.climb.Given as goal

abbrev pub invariant-loop-r : goal.invariant-loop-r
invariant-loop-r l = Climbing (names_of l.ranks.groups) (children_of l.ranks.groups) (numbers_of l.ranks.places) l.r l.initial.marks l.marks
