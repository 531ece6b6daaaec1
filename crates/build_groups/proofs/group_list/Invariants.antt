-- `build_groups::group_list` meets its contract. The invariant: the names passed are copied and listed, and each vertex passed has the place of its group.
use Rattle.build_groups.proofs.Listing.{Listing}
use Rattle.build_groups.proofs.group_list.Given as goal

abbrev pub invariant-loop-v : goal.invariant-loop-v
invariant-loop-v l = Listing l.initial.work l.work l.names l.n l.base l.v l.v l.k
