-- `ask_pairs::places::lay_out` meets its contract, by both passes one after the other.
use Rattle.ask_pairs.proofs.Placing.{placed_all}
use Rattle.ask_pairs.proofs.places.lay_out.Goals as goal

pub returns : goal.returns
returns c = placed_all c.place_groups.ensures c.place_vertices.ensures
