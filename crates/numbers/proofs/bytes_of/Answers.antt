-- `numbers::bytes_of` meets its contract: a width is at most 4, so the product is at most four times the count.
use native.Mathlib.Omega.{arith}
use native.Mathlib.Nat.{mul-le-mul_right}
use mathlib.Core.Path.{refl}
use Rattle.numbers.proofs.bytes_of.Goals as goal

pub overflow_mul-result : goal.overflow_mul-result
overflow_mul-result c = omega (arith, mul-le-mul_right c.args.count c.requires.width.high)

pub returns : goal.returns
returns c = (refl, mul-le-mul_right c.args.count c.requires.width.high)
