-- `Listing::write_listed` meets its contract. The invariant: `at` of the vertices passed are listed, and they stand in front of what was lent.
use Rattle.list.specs.Vertices.{lists}
use Rattle.list.proofs.Writing.{Counted, Written}
use Rattle.list.proofs.listing.Listing.write_listed.Given as goal

abbrev pub invariant-loop-v : goal.invariant-loop-v
invariant-loop-v l = Counted (lists l.self) l.v l.at × Written (lists l.self) l.v l.initial.out l.out
