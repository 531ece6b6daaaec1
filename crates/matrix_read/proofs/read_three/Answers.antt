-- `matrix_read::read_three` meets its contract: a row of three numbers, the first two equal.
use mathlib.Core.Path.{◌∙◌}
use Rattle.matrix_read.proofs.Entries.{row_good, size_none, size_good, size_unequal}
use Rattle.matrix_read.proofs.read_three.Goals as goal

pub returns-in_err-next : goal.returns-in_err-next
returns-in_err-next c = c.from_residual.ensures ∙ size_none _ _ _ _ c.in_err-next.ensures

pub returns-then-n-columns : goal.returns-then-n-columns
returns-then-n-columns c = size_unequal (row_good _ _ _ _ _ _ c.in_ok-next.ensures) c.if-n-columns.true

pub returns : goal.returns
returns c = size_good (row_good _ _ _ _ _ _ c.in_ok-next.ensures) c.if-n-columns.false
