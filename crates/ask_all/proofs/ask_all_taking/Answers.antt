-- `ask_all::ask_all_taking` meets its contract: it returns where one of 10 to 13 and 6 stops it, or with what is behind them; then the needed words are cleared, and no word
-- past them was altered.
use mathlib.Core.Path.{sym, ap, ◌∙◌}
use lib.ListN.{length}
use Rattle.std.proofs.lemmas.Result.{err_from_is_err_and}
use Rattle.lineage.specs.Calls.{forms_taken}
use Rattle.stored_header.specs.Header.{header_outcome}
use Rattle.stored_header.proofs.Admitted.{Admits, admitted_laid}
use Rattle.ask_all.proofs.Own.{header_own}
use Rattle.ask_all.proofs.Refusals.{all_refused, all_rest}
use Rattle.ask_all.proofs.ask_all_taking.Goals as goal
use Rattle.ask_all.proofs.ask_all_taking.Goals.{In_ok-l}

admits : (a : In_ok-l) → let s = a.args in
    Admits (forms_taken s.least s.most) s.index.now (length s.marks.now) (length s.work.now) a.in_ok-l.l
admits a = record { passes = sym (ap header_outcome a.in_ok-l.was) ∙ a.admit.ensures }

pub returns-in_err-l : goal.returns-in_err-l
returns-in_err-l c =
    let s = c.args in
    let from = err_from_is_err_and c.from_residual.result c.from_residual.ensures.1 in
    let says = sym (ap header_outcome c.in_err-l.was) ∙ c.admit.ensures in
    let both = all_refused _ _ _ s.marks.now _ (forms_taken s.least s.most) s.work.now says in record {
      own = rw (from.1, from.2) (header_own (forms_taken s.least s.most) _ _ _ says);
      result_value = rw (from.1, from.2) both.0;
      marks_after = both.1.0;
      work_after = both.1.1.0;
      answers_after = both.1.1.1;
    }

pub invariant_of-image : goal.invariant_of-image
invariant_of-image c = record { laid = admitted_laid (admits (goal.at.invariant_of-image c).In_ok-l) }

pub returns : goal.returns
returns c =
    let e = c.ask_laid-r.ensures in
    let s = c.args in
    let both = all_rest _ s.sources.now s.targets.now _ s.answers.now _ _ (admits (goal.at.returns c).In_ok-l) (e.result_value, (e.marks_after, e.answers_after)) e.kept
    c.words_needed.ensures.0 c.clear_words.ensures in record {
      own = e.own;
      result_value = both.0;
      marks_after = both.1.0;
      work_after = both.1.1.0;
      answers_after = both.1.1.1;
    }
