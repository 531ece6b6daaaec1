-- `text_run::put_built` meets its contract: a refused build prints its refusal; otherwise the questions are asked of the bytes that the build stored.
use mathlib.Core.Path.{◌≡◌, sym, ap, ◌∙◌}
use lib.ListN.{replicate}
use lib.Seq.{length-take-le}
use Rattle.lineage.specs.Calls.{answered}
use Rattle.build.specs.Answers.{built_of}
use Rattle.build.proofs.Theorems.{Allowed}
use Rattle.text.specs.Text.{Text}
use Rattle.text.specs.Output.{input_of, after_build}
use Rattle.text_printing.proofs.Putting.{put_same}
use Rattle.text_run.proofs.Finished.{call_form1, stored_within, stored_answers}
use Rattle.text_run.proofs.put_built.Goals as goal
use Rattle.text_run.proofs.put_built.Goals.{After-build, In-Ok}

-- what the text says
abbrev text_of : (b : After-build) → Text
text_of b =
    let a = b.args in
    record { n = a.n; sources = a.sources.now; targets = a.targets.now; d = a.d; orders = a.orders.now; asked = a.asked.now }

-- what the build answered and left
allowed : (b : After-build) → Allowed 1 (input_of (text_of b)) (replicate 16256 0) (replicate 28626 0) b.build.result b.build.new.work b.build.new.out
allowed b = record { answers = b.build.ensures.result_value; leaves = b.build.ensures.work_after; writes = b.build.ensures.out_after }

done : (f : In-Ok) → built_of f.build.result ≡ answered f.in-Ok.total
done f = ap built_of f.in-Ok.is

pub slice_bounds-index-end : goal.slice_bounds-index-end
slice_bounds-index-end c =
    let p = goal.at.slice_bounds-index-end c in
    stored_within (text_of p.After-build) (allowed p.After-build) (done p.In-Ok)

pub slice_bounds-put_answers-end : goal.slice_bounds-put_answers-end
slice_bounds-put_answers-end c =
    let p = goal.at.slice_bounds-put_answers-end c in
    sym (length-take-le _ _ (stored_within (text_of p.After-build) (allowed p.After-build) (done p.In-Ok)))

pub returns-in-Err : goal.returns-in-Err
returns-in-Err c = put_same (ap (after_build (text_of (goal.at.returns-in-Err c).After-build)) (c.in-Err.ensures.result_value ∙ call_form1 _ _ _)) c.put_refused.ensures

pub returns-in-Ok : goal.returns-in-Ok
returns-in-Ok c =
    let p = goal.at.returns-in-Ok c in
    put_same (stored_answers (text_of p.After-build) (allowed p.After-build) (done p.In-Ok) (sym (call_form1 _ _ _) ∙ sym c.in-Ok.ensures.result_value)) c.put_answers.ensures
