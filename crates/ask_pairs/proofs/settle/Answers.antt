-- `ask_pairs::settle` meets its contract, by the invariant beside this file.
use native.Mathlib.Omega.{arith}
use Rattle.ask_pairs.proofs.Settling.{settled_all}
use Rattle.ask_pairs.proofs.settle.Goals as goal

pub returns : goal.returns
returns c = settled_all c.loop-mark.invariant (omega (arith, c.loop-mark.auto.marks))
