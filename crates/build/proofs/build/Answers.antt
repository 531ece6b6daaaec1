-- `build::build` meets its contract: a form that is not taken is refused before all else, and otherwise it is the build at that form's row.
use mathlib.Core.Bool.{true}
use mathlib.Core.Path.{◌≡◌, sym, ◌∙◌}
use Rattle.lineage.specs.Calls.{takes, ordinary}
use Rattle.build.proofs.Call.{taken_known, call_refused, call_answered}
use Rattle.build.proofs.build.Goals as goal
use Rattle.build.proofs.build.Goals.{Else-not-takes}

taken : (c : Else-not-takes) → takes ordinary c.args.form ≡ true
taken c = sym c.takes.ensures ∙ c.if-not-takes.false

pub returns-then-not-takes : goal.returns-then-not-takes
returns-then-not-takes c =
    let both = call_refused _ _ _ _ (sym c.takes.ensures ∙ c.if-not-takes.true) in record { result_value = both.0; work_after = both.1.0; out_after = both.1.1 }

pub build_form-requires : goal.build_form-requires
build_form-requires c = record { form_value = taken_known c.args.form (taken (goal.at.build_form-requires c).Else-not-takes); row_value = c.form_row.ensures }

pub returns : goal.returns
returns c =
    let both = call_answered _ _ _ _ (taken (goal.at.returns c).Else-not-takes)
    (c.build_form.ensures.result_value, (c.build_form.ensures.work_after, c.build_form.ensures.out_after)) in
    record { result_value = both.0; work_after = both.1.0; out_after = both.1.1 }
