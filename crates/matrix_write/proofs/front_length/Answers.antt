-- `matrix_write::front_length` meets its contract: the header and its LF, n and a space, and the rest of the size line, which is a line of two numbers.
use native.Mathlib.Omega.{arith}
use Rattle.text_printing.proofs.Putting.{number_short}
use Rattle.matrix_write.proofs.Rows.{front_long}
use Rattle.matrix_write.proofs.front_length.Goals as goal

pub returns : goal.returns
returns c =
    let a = c.args in
    (omega (arith, c.decimal_length.ensures, c.row_length.ensures.0, front_long a.n a.edges), omega (arith, c.decimal_length.ensures, c.row_length.ensures.1, number_short a.n))
