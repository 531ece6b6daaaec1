-- `rules::prepare` meets its contract: each return is where its checks stop, and behind 15 what the changed vertices reach is marked, over marks that the check of
-- the contents has cleared.
use mathlib.Core.Bool.{not}
use mathlib.Core.Path.{refl, sym, ap, ◌∙◌}
use native.Mathlib.Omega.{arith}
use lib.ListN.{length}
use Rattle.std.proofs.lemmas.Result.{err_from_is_err_and}
use Rattle.lineage.specs.Calls.{refused, answered, forms_taken}
use Rattle.numbers.proofs.Cleared.{cleared_again}
use Rattle.stored_header.specs.Header.{header_outcome}
use Rattle.stored_header.proofs.Laid.{n_is}
use Rattle.stored_header.proofs.Admitted.{Admits, admitted_laid, admitted_room}
use Rattle.open.proofs.Called.{called_refused, called_at, called_unsound, called_late}
use Rattle.rules.proofs.Preparing.{one_out, none_out, in_range, header_own, prepares, affected_again}
use Rattle.rules.proofs.prepare.Goals as goal
use Rattle.rules.proofs.prepare.Goals.{In_ok-l}

admits : (a : In_ok-l) → let s = a.args in
    Admits (forms_taken s.least s.most) s.index.now (length s.marks.now) (length s.work.now) a.in_ok-l.l
admits a = record { passes = sym (ap header_outcome a.in_ok-l.was) ∙ a.admit.ensures }

pub returns-in_err-l : goal.returns-in_err-l
returns-in_err-l c =
    let from = err_from_is_err_and c.from_residual.result c.from_residual.ensures.1 in
    let says = sym (ap header_outcome c.in_err-l.was) ∙ c.admit.ensures in
    let P = prepares c.args.changed.now (called_refused says) refl in
    record {
      own = rw (from.1, from.2) (header_own (forms_taken c.args.least c.args.most) c.args.index.now _ _ says);
      result_value = rw (from.1, from.2) P.result_value;
      marks_after = P.marks_after;
      work_after = P.work_after;
    }

pub returns-in-Some : goal.returns-in-Some
returns-in-Some c =
    let A = admits (goal.at.returns-in-Some c).In_ok-l in
    let (out, at) = one_out (admitted_laid A) c.args.changed.now c.first_out.ensures c.in-Some.is in
    let P = prepares c.args.changed.now (called_at A 0 out) refl in
    record { own = tt; result_value = ap (refused 14) at ∙ P.result_value; marks_after = P.marks_after; work_after = P.work_after }

pub invariant_of-image : goal.invariant_of-image
invariant_of-image c = record { laid = admitted_laid (admits (goal.at.invariant_of-image c).In_ok-l) }

pub words_needed-requires : goal.words_needed-requires
words_needed-requires c = let L = admitted_laid (admits (goal.at.words_needed-requires c).In_ok-l) in (L.vertices, (L.groups, L.entries))

pub returns-then-not-contents_sound : goal.returns-then-not-contents_sound
returns-then-not-contents_sound c =
    let A = admits (goal.at.returns-then-not-contents_sound c).In_ok-l in
    let d = c.args.changed.now in
    let says = c.contents_sound.ensures in
    let P = prepares d
    (called_unsound A (none_out (admitted_laid A) d c.first_out.ensures c.in_default.is, tt) says.value says.marks_after c.words_needed.ensures.0 c.clear_words.ensures
    (ap not c.if-not-contents_sound.true))
    refl in
    record { own = λ e. omega (arith, e); result_value = P.result_value; marks_after = P.marks_after; work_after = P.work_after }

pub mark_affected-requires : goal.mark_affected-requires
mark_affected-requires c =
    let A = admits (goal.at.mark_affected-requires c).In_ok-l in
    let L = admitted_laid A in
    let d = c.args.changed.now in
    record {
      n_in_bounds = (omega (arith, admitted_room A, c.contents_sound.auto), in_range (n_is L) d (none_out L d c.first_out.ensures c.in_default.is));
      marks_value = cleared_again _ _ c.contents_sound.ensures.marks_after;
    }

pub returns : goal.returns
returns c =
    let A = admits (goal.at.returns c).In_ok-l in
    let L = admitted_laid A in
    let d = c.args.changed.now in
    let says = c.contents_sound.ensures in
    let P = prepares d
    (called_late A (none_out L d c.first_out.ensures c.in_default.is, tt) says.value says.marks_after c.words_needed.ensures.0 c.clear_words.ensures
    (ap not c.if-not-contents_sound.false) refl)
    (c.mark_affected.ensures ∙ affected_again c.args.index.now d _ says.marks_after (n_is L)) in
    record { own = tt; result_value = ap answered (n_is L) ∙ P.result_value; marks_after = P.marks_after; work_after = P.work_after }
