-- `matrix_read::read_pair` meets its contract: a row of two numbers, each from 1 to n.
use mathlib.Core.Path.{◌∙◌}
use native.Mathlib.Omega.{arith}
use Rattle.matrix_read.proofs.Entries.{row_good, entry_none, entry_good, entry_outside}
use Rattle.matrix_read.proofs.read_pair.Goals as goal

pub returns-in_err-next : goal.returns-in_err-next
returns-in_err-next c = c.from_residual.ensures ∙ entry_none _ _ _ _ _ c.in_err-next.ensures

pub returns-then-u-eq0 : goal.returns-then-u-eq0
returns-then-u-eq0 c =
    let e = c.then-u-eq0.either in
    entry_outside c.args.n (row_good _ _ _ _ _ _ c.in_ok-next.ensures) (λ u1 un v1 vn. omega arith)

pub returns : goal.returns
returns c = entry_good _ (row_good _ _ _ _ _ _ c.in_ok-next.ensures) (omega arith) c.if-n-u.false (omega arith) c.if-n-v.false
