-- `ask_pairs::places::place_groups` meets its contract, by the invariant beside this file.
use native.Mathlib.Omega.{arith}
use Rattle.ask_pairs.proofs.places.place_groups.Goals as goal

pub returns : goal.returns
returns c = record { at = λ p h. c.loop-p.invariant.at p (omega (arith, c.loop-p-test.false)) }
