-- `ask_walk::open_group` and `ask_walk::try_children` meet their contracts, as one cycle of calls: opening at a level tries children at that level, and trying
-- at a level opens groups one level lower. Each contract is the definition's own equation; the row's loop takes the children one by one (Turns).
use Rattle.std.proofs.Common.{◌+◌, ◌*◌}
use Rattle.ask_walk.specs.Fit.{all, Marks}
use Rattle.ask_walk.specs.Stamps.{seen_as}
use Rattle.ask_walk.specs.Walks.{net_of_walk}
use Rattle.ask_walk.proofs.Trying.{Tried}
use Rattle.ask_walk.proofs.+open_group_try_children.Given as goal

-- the level falls from opening to opening, and trying lies between
abbrev pub decreases-open_group : goal.decreases-open_group
decreases-open_group l = 2 * l.lev + 1

abbrev pub decreases-try_children : goal.decreases-try_children
decreases-try_children l = 2 * l.lev

-- Trying. Before child i, `opened` groups are opened and the marks are as they are: what is left makes up the whole row.
abbrev pub invariant-try_children-loop-i : goal.invariant-try_children-loop-i
invariant-try_children-loop-i l = record {
  tried : Tried (net_of_walk l.walk) l.fn.lev (all l.walk.width l.row) (seen_as l.stamp l.fn.marks) (seen_as l.stamp l.marks) l.i l.opened;
  marked : Marks (net_of_walk l.walk) l.walk.k l.stamp l.marks;
}
