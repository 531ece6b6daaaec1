-- `matrix_lines::skip_comments` meets its contract, by the invariant beside this file.
use mathlib.Core.Path.{sym, ◌∙◌}
use Rattle.matrix_lines.proofs.Firsts.{comment_is, comment_not}
use Rattle.matrix_lines.proofs.Lines.{skip_other, skip_unended, skip_turns}
use Rattle.matrix_lines.proofs.skip_comments.Goals as goal

pub returns-in_default : goal.returns-in_default
returns-in_default c = skip_other _ _ _ _ c.loop-end.invariant (comment_not _ (λ k. c.in_default.not-Comment (c.kind_at.ensures ∙ k)))

pub returns-then-text-end : goal.returns-then-text-end
returns-then-text-end c =
    let e = c.line_end-end in
    skip_unended _ _ _ _ c.loop-end.invariant e.result e.ensures.0 c.if-text-end.true

pub loop-end-preserved : goal.loop-end-preserved
loop-end-preserved c =
    let e = c.line_end-end in
    skip_turns _ _ _ _ c.loop-end.invariant e.result (comment_is _ (sym c.kind_at.ensures ∙ c.in-Comment.is)) e.ensures.0 c.if-text-end.false
