-- `open::open_taking` meets its contract: the checks stop at one of 10 to 13 and 6, at 15, or behind it.
use mathlib.Core.Bool.{not}
use mathlib.Core.Path.{sym, ap, ◌∙◌}
use native.Mathlib.Omega.{arith}
use lib.ListN.{length}
use Rattle.std.proofs.lemmas.Result.{err_from_is_err_and}
use Rattle.lineage.specs.Calls.{forms_taken}
use Rattle.stored_header.specs.Header.{header_outcome}
use Rattle.stored_header.proofs.Admitted.{Admits, admitted_laid, admitted_room, admitted_words}
use Rattle.open.proofs.Checks.{opens_refused, opens_unsound, opens_sound}
use Rattle.open.proofs.open_taking.Goals as goal
use Rattle.open.proofs.open_taking.Goals.{In_ok-l}

admits : (a : In_ok-l) → let s = a.args in
    Admits (forms_taken s.least s.most) s.index.now (length s.marks.now) (length s.work.now) a.in_ok-l.l
admits a = record { passes = sym (ap header_outcome a.in_ok-l.was) ∙ a.admit.ensures }

pub returns-in_err-l : goal.returns-in_err-l
returns-in_err-l c =
    let s = c.args in
    let from = err_from_is_err_and c.from_residual.result c.from_residual.ensures.1 in
    let both = opens_refused (forms_taken s.least s.most) _ s.marks.now s.work.now (sym (ap header_outcome c.in_err-l.was) ∙ c.admit.ensures) in record {
      result_value = rw (from.1, from.2) both.0;
      marks_after = both.1.0;
      work_after = both.1.1;
    }

pub invariant_of-image : goal.invariant_of-image
invariant_of-image c = record { laid = admitted_laid (admits (goal.at.invariant_of-image c).In_ok-l) }

pub words_needed-requires : goal.words_needed-requires
words_needed-requires c = let L = admitted_laid (admits (goal.at.words_needed-requires c).In_ok-l) in (L.vertices, (L.groups, L.entries))

pub clear_words-requires : goal.clear_words-requires
clear_words-requires c = omega (arith, c.words_needed.ensures.0, admitted_words (admits (goal.at.clear_words-requires c).In_ok-l))

pub contents_sound-requires : goal.contents_sound-requires
contents_sound-requires c = admitted_room (admits (goal.at.contents_sound-requires c).In_ok-l)

pub returns-then-not-contents_sound : goal.returns-then-not-contents_sound
returns-then-not-contents_sound c =
    let both = opens_unsound _ _ _ _ (admits (goal.at.returns-then-not-contents_sound c).In_ok-l) c.contents_sound.ensures.value c.contents_sound.ensures.marks_after
    c.words_needed.ensures.0 c.clear_words.ensures (ap not c.if-not-contents_sound.true) in record {
      result_value = both.0;
      marks_after = both.1.0;
      work_after = both.1.1;
    }

pub overflow_cast-result : goal.overflow_cast-result
overflow_cast-result c = omega (arith, admitted_laid (admits (goal.at.overflow_cast-result c).In_ok-l))

pub overflow_cast-result-2 : goal.overflow_cast-result-2
overflow_cast-result-2 c = omega (arith, admitted_laid (admits (goal.at.overflow_cast-result-2 c).In_ok-l))

pub overflow_cast-result-3 : goal.overflow_cast-result-3
overflow_cast-result-3 c = omega (arith, admitted_laid (admits (goal.at.overflow_cast-result-3 c).In_ok-l))

pub overflow_cast-result-4 : goal.overflow_cast-result-4
overflow_cast-result-4 c = omega (arith, admitted_laid (admits (goal.at.overflow_cast-result-4 c).In_ok-l))

pub returns : goal.returns
returns c =
    let both = opens_sound _ _ _ _ (admits (goal.at.returns c).In_ok-l) c.contents_sound.ensures.value c.contents_sound.ensures.marks_after c.words_needed.ensures.0
    c.clear_words.ensures (ap not c.if-not-contents_sound.false) in record {
      result_value = both.0;
      marks_after = both.1.0;
      work_after = both.1.1;
    }
