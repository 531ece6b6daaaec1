-- `ask_pairs::places::place_groups` meets its contract. The invariant: each of the first p groups has its place at its name; a further name is another position.
use Rattle.ask_pairs.specs.Places.{AtNames}
use Rattle.ask_pairs.proofs.places.place_groups.Given as goal

abbrev pub invariant-loop-p : goal.invariant-loop-p
invariant-loop-p l = AtNames l.w l.p l.groups l.places
