-- `ask::ask_laid` meets its contract: the check of the contents leaves the marks 0 below n, and the question is lent those.
use mathlib.Core.Bool.{not}
use mathlib.Core.Path.{sym, ap, ◌∙◌}
use Prim.Native.Nat.{ℕ}
use native.Mathlib.Omega.{arith}
use lib.ListN.{length, length-replicate}
use Rattle.lineage.specs.Index.{Index}
use Rattle.lineage.specs.Question.{answer}
use Rattle.numbers.proofs.Cleared.{cleared_front}
use Rattle.open.proofs.Checks.{contents_applies}
use Rattle.ask_walk.proofs.Stamped.{zero_under, seen_own}
use Rattle.ask.specs.Replies.{answer_by}
use Rattle.ask.proofs.Refusals.{replies_answered}
use Rattle.ask.proofs.ask_laid.Goals as goal

pub question-requires : goal.question-requires
question-requires c =
    let p = c.requires.u_lt_n in
    let same = c.of.ensures.1 in
    let n : ℕ = c.args.index.now.layout.n in
    let front = cleared_front _ _ c.contents_sound.ensures.marks_after in
    rw same (p.0, (p.1.0, (ap length front ∙ length-replicate n 0, (zero_under _ n _ (omega arith) front, p.1.1.1))))

pub returns : goal.returns
returns c =
    let L = c.args.index.now.laid in
    let (o, k) =
    replies_answered _ c.args.u c.args.v _ L c.contents_sound.ensures.marks_after
    (contents_applies L c.contents_sound.ensures.value ∙ (ap not c.if-not-contents_sound.false)) c.question.result _
    (ap (answer_by c.question.result) (sym (seen_own _ c.question.ensures.under)) ∙ c.question.ensures.marks_after ∙ ap (λ (I : Index). answer I c.args.u c.args.v) c.of.ensures.0) in record {
      result_value = o;
      marks_after = k;
      kept = rw c.of.ensures.1 at c.question.ensures.kept;
    }
