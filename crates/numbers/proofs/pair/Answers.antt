-- `numbers::pair` meets its contract: the two bytes are the two steps of the definition.
use native.Mathlib.Omega.{arith}
use Rattle.lineage.specs.Numbers.{le_at}
use Rattle.numbers.proofs.pair.Goals as goal

pub returns : goal.returns
unfolding le_at
returns c = omega arith
