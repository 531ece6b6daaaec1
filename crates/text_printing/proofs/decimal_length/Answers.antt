-- `text_printing::decimal_length` meets its contract, by the invariant beside this file.
use native.Mathlib.Omega.{arith}
use Rattle.text_printing.proofs.Putting.{one_long, tenth_long}
use Rattle.text_printing.proofs.decimal_length.Goals as goal

pub loop-y-preserved : goal.loop-y-preserved
loop-y-preserved c =
    let i = c.loop-y.invariant in
    let fits = c.ranges.x.fits in
    let y = c.loop-y.y in
    (omega (arith, i.0), (omega (arith, i.1.0, c.loop-y-test.true), omega (arith, i.1.1, tenth_long y c.loop-y-test.true (omega (arith, i.0, fits)))))

pub returns : goal.returns
returns c =
    let i = c.loop-y.invariant in
    omega (arith, i.1.1, one_long c.loop-y.y (omega (arith, c.loop-y-test.false)))
