-- `Listing::count_listed` meets its contract. The invariant: `count` of the vertices passed are listed.
use Rattle.list.specs.Vertices.{lists}
use Rattle.list.proofs.Writing.{Counted}
use Rattle.list.proofs.listing.Listing.count_listed.Given as goal

abbrev pub invariant-loop-v : goal.invariant-loop-v
invariant-loop-v l = Counted (lists l.self) l.v l.count
