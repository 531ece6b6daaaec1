-- `list::listing::in_own_list` meets its contract. The invariant: `count` of the vertices passed have u's name.
use Rattle.stored.specs.Reading.{numbers_of}
use Rattle.list.proofs.Writing.{Counted}
use Rattle.list.proofs.Own.{named}
use Rattle.list.proofs.listing.in_own_list.Given as goal

abbrev pub invariant-loop-v : goal.invariant-loop-v
invariant-loop-v l = Counted (named (numbers_of l.names) l.u) l.v l.count
