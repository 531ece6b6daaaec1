-- `reach_sweep::mark_children` meets its contract. The invariant: marking the children from i on comes to marking the whole row.
use mathlib.Core.List.{[]}
use lib.ListN.{get_or}
use Rattle.reach_sweep.specs.Fit.{names_of, children_of}
use Rattle.reach_sweep.proofs.Marking.{RowMarking}
use Rattle.reach_sweep.proofs.mark_children.Given as goal

abbrev pub invariant-loop-i : goal.invariant-loop-i
invariant-loop-i l = RowMarking (names_of l.groups) (get_or (children_of l.groups) l.p []) l.i l.initial.marks l.marks
