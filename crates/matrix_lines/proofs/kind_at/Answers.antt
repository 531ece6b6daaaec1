-- `matrix_lines::kind_at` meets its contract: the byte at the position is the first from there on, and the arm that the match takes says what the line is.
use native.Mathlib.Omega.{arith}
use Rattle.matrix_lines.proofs.Firsts.{end_here, comment_kind, row_kind, low_kind, high_kind}
use Rattle.matrix_lines.proofs.kind_at.Goals as goal

pub returns-then-text-at : goal.returns-then-text-at
returns-then-text-at c = end_here _ _ c.if-text-at.true

pub returns-in-37 : goal.returns-in-37
returns-in-37 c = comment_kind _ _ c.if-text-at.false c.in-37.is

pub returns-in-48-to-57 : goal.returns-in-48-to-57
returns-in-48-to-57 c = row_kind c.args.text.now c.args.at c.if-text-at.false (omega arith) (omega arith)

pub returns-in_default : goal.returns-in_default
returns-in_default c = low_kind c.args.text.now c.args.at c.if-text-at.false c.in_default.in_default-own.rest.1 (omega arith)

pub returns-in_default-2 : goal.returns-in_default-2
returns-in_default-2 c = high_kind c.args.text.now c.args.at c.if-text-at.false (omega arith)
