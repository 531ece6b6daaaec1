-- `hierarchy::ask_laid` meets its contract: the check of the contents leaves the marks 0 below n, and so they stay; the reason tells the answer.
use mathlib.Core.Bool.{not}
use mathlib.Core.Path.{refl, ap, ◌∙◌}
use Rattle.open.proofs.Checks.{contents_applies}
use Rattle.hierarchy.proofs.Asked.{replies_by}
use Rattle.hierarchy.proofs.ask_laid.Goals as goal

pub returns : goal.returns
returns c =
    let a = c.args in
    let L = c.args.index.now.laid in
    let both = replies_by _ a.u a.v _ L c.contents_sound.ensures.marks_after (contents_applies L c.contents_sound.ensures.value ∙ ap not c.if-not-contents_sound.false) c.reason_between-reason.result c.reason_between-reason.ensures refl c.deciding_for.ensures in
    record {
      result_value = both.0;
      marks_after = both.1;
    }
