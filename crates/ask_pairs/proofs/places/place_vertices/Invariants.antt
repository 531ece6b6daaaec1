-- `ask_pairs::places::place_vertices` meets its contract. The invariant: the vertices below v have what stood at their names, and from v on all is as it was; so at a name
-- stands what stood there, whether it was passed or not.
use Rattle.ask_pairs.proofs.Placing.{Filled}
use Rattle.ask_pairs.proofs.places.place_vertices.Given as goal

abbrev pub invariant-loop-v : goal.invariant-loop-v
invariant-loop-v l = Filled l.w l.names l.initial.places l.places l.v
