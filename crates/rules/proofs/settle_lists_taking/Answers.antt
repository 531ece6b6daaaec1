-- `rules::settle_lists_taking` meets its contract: what `prepare` refused is handed on, and otherwise the states follow its marks, which are cleared again.
use mathlib.Core.Path.{◌≡◌, sym, ap, ◌∙◌}
use native.Mathlib.Omega.{arith}
use lib.ListN.{length}
use Rattle.std.proofs.lemmas.Result.{err_from_is_err_and}
use Rattle.lineage.specs.Calls.{answered, forms_taken}
use Rattle.rules.specs.Settled.{prepared_of, prepared_answer}
use Rattle.rules.proofs.Refusals.{settles_refused, reached_room, settles_done}
use Rattle.rules.proofs.settle_lists_taking.Goals as goal
use Rattle.rules.proofs.settle_lists_taking.Goals.{In_ok-n}

answers : (l : In_ok-n) → let s = l.args in
    answered l.in_ok-n.n ≡ prepared_answer (forms_taken s.least s.most) s.index.now s.changed.now (length s.marks.now) (length s.work.now)
answers l = sym (ap prepared_of l.in_ok-n.was) ∙ l.prepare.ensures.result_value

pub returns-in_err-n : goal.returns-in_err-n
returns-in_err-n c =
    let s = c.args in
    let from = err_from_is_err_and c.from_residual.result c.from_residual.ensures.1 in
    let says = sym (ap prepared_of c.in_err-n.was) ∙ c.prepare.ensures.result_value in
    let both = settles_refused (forms_taken s.least s.most) _ s.changed.now s.marks.now s.work.now says s.vertices.now s.states.now c.prepare.ensures.marks_after c.prepare.ensures.work_after in record {
      own = rw (from.1, from.2) c.in_err-n.ensures.own;
      result_value = rw (from.1, from.2) both.0;
      marks_after = both.1.0;
      work_after = both.1.1.0;
      states_after = both.1.1.1;
    }

pub settle_states-requires : goal.settle_states-requires
settle_states-requires c =
    let s = c.args in
    reached_room (forms_taken s.least s.most) _ s.changed.now s.marks.now s.work.now (answers (goal.at.settle_states-requires c).In_ok-n) c.prepare.ensures.marks_after

pub clear_marks-requires : goal.clear_marks-requires
clear_marks-requires c =
    let s = c.args in
    omega (arith, reached_room (forms_taken s.least s.most) _ s.changed.now s.marks.now s.work.now (answers (goal.at.clear_marks-requires c).In_ok-n) c.prepare.ensures.marks_after)

pub returns : goal.returns
returns c =
    let s = c.args in
    let both = settles_done (forms_taken s.least s.most) _ s.changed.now s.marks.now s.work.now (answers (goal.at.returns c).In_ok-n) c.prepare.ensures.marks_after s.vertices.now s.states.now c.settle_states.ensures c.clear_marks.ensures c.prepare.ensures.work_after in
    record {
      own = tt;
      result_value = both.0;
      marks_after = both.1.0;
      work_after = both.1.1.0;
      states_after = both.1.1.1;
    }
