-- `text_printing::put_number` meets its contract: the digits of a number are those of its tenth part, which is less, and then the last.
use native.Mathlib.Omega.{arith}
use Rattle.text_printing.proofs.Putting.{number_one, one_long, tenth_long, number_room, number_more}
use Rattle.text_printing.proofs.+put_number.Goals as goal

pub put_byte-requires : goal.put_byte-requires
put_byte-requires t c = omega (arith, one_long c.args.x c.if-x-lt10.true, c.requires)

pub returns-then-x-lt10 : goal.returns-then-x-lt10
returns-then-x-lt10 t c = number_one _ c.if-x-lt10.true c.digit.ensures c.put_byte.ensures

pub put_number-p-requires : goal.put_number-p-requires
put_number-p-requires t c = (omega arith, omega (arith, tenth_long c.args.x c.if-x-lt10.false c.ranges.x.fits))

pub put_byte-requires-2 : goal.put_byte-requires-2
put_byte-requires-2 t c =
    omega (arith, number_room c.args.x c.if-x-lt10.false c.ranges.x.fits c.put_number-p.ensures c.requires)

pub returns : goal.returns
returns t c =
    number_more c.args.x c.if-x-lt10.false c.ranges.x.fits c.put_number-p.ensures c.digit-2.ensures c.put_byte-2.ensures (omega arith)
