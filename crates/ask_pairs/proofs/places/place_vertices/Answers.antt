-- `ask_pairs::places::place_vertices` meets its contract, by the invariant beside this file.
use native.Mathlib.Omega.{arith}
use Rattle.ask_pairs.proofs.places.place_vertices.Goals as goal

pub returns : goal.returns
returns c = record { at = λ v h. c.loop-v.invariant.done v (omega (arith, c.loop-v-test.false)) }
