-- `ask_stacked::open_in_words` meets its contract. A turn tries the next child of the top row: rule 2 ends the walk, or the child is passed over, or it is opened and its
-- row is on top (Turns); where none is left the row under it goes on; and with no row left the walk is over (Walking).
use Prim.Native.Nat.{◌+◌}
use lib.ListN.{length}
use Rattle.lineage.specs.Numbers.{num_at}
use Rattle.ask_walk.specs.Fit.{count, net_in}
use Rattle.ask_walk.specs.Stamps.{seen_as, Under}
use Rattle.ask_stacked.proofs.Walking.{Walking, opening, to_go}
use Rattle.ask_stacked.proofs.open_in_words.Given as goal

abbrev pub invariant-loop-row : goal.invariant-loop-row
invariant-loop-row l = Walking l.w l.k l.d l.t l.groups l.levels l.starts l.children l.labels (length l.initial.marks) (num_at l.w l.levels l.g)
    (opening (net_in l.w l.k l.d l.t l.groups l.levels l.starts l.children l.labels) (num_at l.w l.levels l.g) l.g (seen_as l.stamp l.initial.marks)) l.initial.work (seen_as l.stamp l.marks) l.work l.row l.depth l.opened
    × Under (l.stamp + 1) l.marks

abbrev pub decreases-loop-row : goal.decreases-loop-row
decreases-loop-row l = to_go (count l.w l.children) (seen_as l.stamp l.marks) l.depth l.row.next
