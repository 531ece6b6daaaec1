-- `numbers::numbers_from` meets its contract: the part starts where number `from` does and ends where the last of the numbers ends.
use native.Mathlib.Omega.{arith}
use Rattle.numbers.proofs.Numbers.{part_by}
use Rattle.numbers.proofs.numbers_from.Goals as goal

pub returns : goal.returns
returns c = part_by _ _ _ _ _ _ c.bytes_of-start.ensures.0 c.bytes_of-end.ensures.0 (omega arith)
