-- `ask::ask_taking` meets its contract: it returns where one of 10 to 13, 6 and 14 stops it, or with what is behind them; then the needed words are cleared, and no word
-- past them was altered.
use mathlib.Core.Path.{sym, ap, ◌∙◌}
use lib.ListN.{length}
use Rattle.std.proofs.lemmas.Result.{err_from_is_err_and}
use Rattle.lineage.specs.Calls.{forms_taken}
use Rattle.stored_header.specs.Header.{header_outcome}
use Rattle.stored_header.proofs.Laid.{vertex_out, vertex_in}
use Rattle.stored_header.proofs.Admitted.{Admits, admitted_laid}
use Rattle.ask.proofs.Refusals.{asks_refused, asks_source, asks_target, asks_rest}
use Rattle.ask.proofs.ask_taking.Goals as goal
use Rattle.ask.proofs.ask_taking.Goals.{In_ok-l}

admits : (a : In_ok-l) → let s = a.args in
    Admits (forms_taken s.least s.most) s.index.now (length s.marks.now) (length s.work.now) a.in_ok-l.l
admits a = record { passes = sym (ap header_outcome a.in_ok-l.was) ∙ a.admit.ensures }

pub returns-in_err-l : goal.returns-in_err-l
returns-in_err-l c =
    let s = c.args in
    let from = err_from_is_err_and c.from_residual.result c.from_residual.ensures.1 in
    let both = asks_refused _ _ _ s.marks.now (forms_taken s.least s.most) s.work.now (sym (ap header_outcome c.in_err-l.was) ∙ c.admit.ensures) in record {
      result_value = rw (from.1, from.2) both.0;
      marks_after = both.1.0;
      work_after = both.1.1;
    }

pub returns-then-l-u : goal.returns-then-l-u
returns-then-l-u c =
    let A = admits (goal.at.returns-then-l-u c).In_ok-l in
    let both = asks_source _ _ _ _ _ _ A (vertex_out (admitted_laid A) c.if-l-u.true) in record {
      result_value = both.0;
      marks_after = both.1.0;
      work_after = both.1.1;
    }

pub returns-then-l-v : goal.returns-then-l-v
returns-then-l-v c =
    let A = admits (goal.at.returns-then-l-v c).In_ok-l in
    let both = asks_target _ _ _ _ _ _ A (vertex_in (admitted_laid A) c.if-l-u.false) (vertex_out (admitted_laid A) c.if-l-v.true) in record {
      result_value = both.0;
      marks_after = both.1.0;
      work_after = both.1.1;
    }

pub invariant_of-image : goal.invariant_of-image
invariant_of-image c = record { laid = admitted_laid (admits (goal.at.invariant_of-image c).In_ok-l) }

pub returns : goal.returns
returns c =
    let A = admits (goal.at.returns c).In_ok-l in
    let L = admitted_laid A in
    let both = asks_rest _ _ _ _ _ _ A (vertex_in L c.if-l-u.false) (vertex_in L c.if-l-v.false) (c.ask_laid-r.ensures.result_value, c.ask_laid-r.ensures.marks_after)
    c.ask_laid-r.ensures.kept c.words_needed.ensures.0 c.clear_words.ensures in record {
      result_value = both.0;
      marks_after = both.1.0;
      work_after = both.1.1;
    }
