-- `build::build_form` meets its contract: a refusal of checks 1 to 7 is the answer, and where they pass, that of what comes behind them; the words needed are then set to 0.
use mathlib.Core.Path.{◌≡◌, sym, ap, ◌∙◌}
use Rattle.std.proofs.lemmas.Result.{err_from_is_err_and}
use Rattle.lineage.specs.Calls.{answered, outcome, Input, work_needed, build_early}
use lib.ListN.{length}
use Rattle.build.specs.Input.{input_of, form_by, RowFit}
use Rattle.build.specs.Answers.{checked_of}
use Rattle.build.proofs.Row.{number_small, row_fit, row_answered}
use Rattle.build.proofs.Answered.{early_refused, admitted_row, needed_there, late_answered}
use Rattle.build.proofs.build_form.Goals as goal
use Rattle.build.proofs.build_form.Goals.{In_ok-needed, Start}

abbrev input : (s : Start) → Input
input s = input_of s.args.n s.args.sources.now s.args.targets.now s.args.d s.args.orders.now

fit : (s : Start) → RowFit s.args.row
fit s = row_fit s.args.form s.args.row s.requires.form_value s.requires.row_value

-- what checks 1 to 7 let pass
passed : (c : In_ok-needed) → answered c.in_ok-needed.needed ≡ outcome (build_early (form_by c.args.form c.args.row) ((input_of c.args.n c.args.sources.now c.args.targets.now c.args.d c.args.orders.now)) (length c.args.work.now)) (work_needed ((input_of c.args.n c.args.sources.now c.args.targets.now c.args.d c.args.orders.now)).graph)
passed c = ap checked_of (sym c.in_ok-needed.was) ∙ c.early.ensures

pub early-requires : goal.early-requires
early-requires c = fit (goal.at.early-requires c).Start

pub late-built-requires : goal.late-built-requires
late-built-requires c = record {
  form_bound = number_small c.args.form c.args.row c.requires.form_value c.requires.row_value;
  row_fit = fit (goal.at.late-built-requires c).Start;
  admitted = admitted_row c.args.form c.args.row (input (goal.at.late-built-requires c).Start) c.args.work.now c.args.out.now
      (passed (goal.at.late-built-requires c).In_ok-needed);
}

pub clear_words-requires : goal.clear_words-requires
clear_words-requires c =
    needed_there c.args.form c.args.row (input (goal.at.clear_words-requires c).Start) c.args.work.now c.args.out.now
    (passed (goal.at.clear_words-requires c).In_ok-needed) c.late-built.ensures

pub returns-in_err-needed : goal.returns-in_err-needed
returns-in_err-needed c =
    let from = err_from_is_err_and c.from_residual.result c.from_residual.ensures.1 in
    let both = row_answered c.args.form c.args.row c.requires.form_value c.requires.row_value _ _ _ _ _ _
    (early_refused c.args.form c.args.row (input (goal.at.returns-in_err-needed c).Start) c.args.work.now c.args.out.now
    (ap checked_of (sym c.in_err-needed.was) ∙ c.early.ensures)) in
    record { result_value = rw (from.1, from.2) both.0; work_after = both.1.0; out_after = both.1.1 }

pub returns : goal.returns
returns c =
    let both = row_answered c.args.form c.args.row c.requires.form_value c.requires.row_value _ _ _ _ _ _
    (late_answered c.args.form c.args.row (input (goal.at.returns c).Start) c.args.work.now c.args.out.now
    (passed (goal.at.returns c).In_ok-needed) c.late-built.ensures c.clear_words.ensures) in
    record { result_value = both.0; work_after = both.1.0; out_after = both.1.1 }
