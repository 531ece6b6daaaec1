-- `convert::convert_between` meets its contract: each return is where its checks stop, and behind 15 the writing of sound bytes decides.
use mathlib.Core.Bool.{not}
use mathlib.Core.Path.{sym, ap, ◌∙◌}
use native.Mathlib.Omega.{arith}
use lib.ListN.{length}
use Rattle.std.proofs.lemmas.Result.{err_from_is_err_and}
use Rattle.stored_header.specs.Header.{header_outcome}
use Rattle.stored_header.proofs.Admitted.{Admits, admitted_laid, admitted_words}
use Rattle.convert.specs.Convert.{only}
use Rattle.convert.proofs.Refusals.{converts_refused, converts_unsound, converts_turned}
use Rattle.convert.proofs.convert_between.Goals as goal
use Rattle.convert.proofs.convert_between.Goals.{In_ok-layout}

admits : (a : In_ok-layout) → let s = a.args in
    Admits (only s.from) s.index.now (length s.marks.now) (length s.work.now) a.in_ok-layout.layout
admits a = record { passes = sym (ap header_outcome a.in_ok-layout.was) ∙ a.admit.ensures }

pub returns-in_err-layout : goal.returns-in_err-layout
returns-in_err-layout c =
    let s = c.args in
    let from = err_from_is_err_and c.from_residual.result c.from_residual.ensures.1 in
    let both = converts_refused s.from s.to _ s.marks.now s.work.now s.out.now (sym (ap header_outcome c.in_err-layout.was) ∙ c.admit.ensures) in record {
      result_value = rw (from.1, from.2) both.0;
      marks_after = both.1.0;
      work_after = both.1.1.0;
      out_after = both.1.1.1;
    }

pub invariant_of-image : goal.invariant_of-image
invariant_of-image c = record { laid = admitted_laid (admits (goal.at.invariant_of-image c).In_ok-layout) }

pub words_needed-requires : goal.words_needed-requires
words_needed-requires c = let L = admitted_laid (admits (goal.at.words_needed-requires c).In_ok-layout) in (L.vertices, (L.groups, L.entries))

pub clear_words-requires : goal.clear_words-requires
clear_words-requires c = omega (arith, c.words_needed.ensures.0, admitted_words (admits (goal.at.clear_words-requires c).In_ok-layout))

pub returns-then-not-contents_sound : goal.returns-then-not-contents_sound
returns-then-not-contents_sound c =
    let both = converts_unsound _ _ _ _ _ _ (admits (goal.at.returns-then-not-contents_sound c).In_ok-layout) c.contents_sound.ensures.value
    c.contents_sound.ensures.marks_after c.words_needed.ensures.0 c.clear_words.ensures (ap not c.if-not-contents_sound.true) in record {
      result_value = both.0;
      marks_after = both.1.0;
      work_after = both.1.1.0;
      out_after = both.1.1.1;
    }

pub returns : goal.returns
returns c =
    let both = converts_turned _ _ _ _ _ _ (admits (goal.at.returns c).In_ok-layout) c.contents_sound.ensures.value c.contents_sound.ensures.marks_after
    c.words_needed.ensures.0 c.clear_words.ensures (ap not c.if-not-contents_sound.false) c.convert_sound.ensures in record {
      result_value = both.0;
      marks_after = both.1.0;
      work_after = both.1.1.0;
      out_after = both.1.1.1;
    }
