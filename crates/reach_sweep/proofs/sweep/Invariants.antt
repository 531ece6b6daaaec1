-- `reach_sweep::sweep` meets its contract. The invariant: sweeping the ranks that are left comes to the whole sweep.
use Rattle.stored.specs.Reading.{numbers_of}
use Rattle.reach_sweep.specs.Fit.{names_of, children_of}
use Rattle.reach_sweep.proofs.Sweeping.{Sweeping}
use Rattle.reach_sweep.proofs.sweep.Given as goal

abbrev pub invariant-loop-r : goal.invariant-loop-r
invariant-loop-r l = Sweeping (names_of l.ranks.groups) (children_of l.ranks.groups) (numbers_of l.ranks.places) l.top l.r l.initial.marks l.marks
