-- `matrix_write::row_length` meets its contract: two decimals, a space and LF.
use native.Mathlib.Omega.{arith}
use Rattle.text_printing.proofs.Putting.{number_short}
use Rattle.matrix_write.proofs.Rows.{pair_long}
use Rattle.matrix_write.proofs.row_length.Goals as goal

pub overflow_add-result : goal.overflow_add-result
overflow_add-result c = omega (arith, c.decimal_length.ensures, c.decimal_length-2.ensures, number_short c.args.x, number_short c.args.y)

pub overflow_add-result-2 : goal.overflow_add-result-2
overflow_add-result-2 c = omega (arith, c.decimal_length.ensures, c.decimal_length-2.ensures, number_short c.args.x, number_short c.args.y)

pub returns : goal.returns
returns c =
    let a = c.args in
    (omega (arith, c.decimal_length.ensures, c.decimal_length-2.ensures, pair_long a.x a.y), omega (arith, c.decimal_length.ensures, c.decimal_length-2.ensures, number_short a.x, number_short a.y))
