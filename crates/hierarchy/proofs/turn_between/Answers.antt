-- `hierarchy::turn_between` meets its contract: each return is where its checks stop, and behind 15 the writing of sound bytes decides.
use mathlib.Core.Bool.{not}
use mathlib.Core.Path.{sym, ap, ◌∙◌}
use native.Mathlib.Omega.{arith}
use lib.ListN.{length}
use Rattle.std.proofs.lemmas.Result.{err_from_is_err_and}
use Rattle.numbers.proofs.Cleared.{cleared_again}
use Rattle.stored_header.specs.Header.{header_outcome}
use Rattle.stored_header.proofs.Admitted.{Admits, admitted_laid, admitted_room, admitted_words}
use Rattle.convert.specs.Convert.{only}
use Rattle.hierarchy.proofs.Admitted.{admitted_wide, admitted_one}
use Rattle.hierarchy.proofs.Refusals.{turns_refused, turns_unsound, turns_turned}
use Rattle.hierarchy.proofs.turn_between.Goals as goal
use Rattle.hierarchy.proofs.turn_between.Goals.{In_ok-layout}

admits : (a : In_ok-layout) → let s = a.args in
    Admits (only s.from) s.index.now (length s.marks.now) (length s.work.now) a.in_ok-layout.layout
admits a = record { passes = sym (ap header_outcome a.in_ok-layout.was) ∙ a.admit.ensures }

pub returns-in_err-layout : goal.returns-in_err-layout
returns-in_err-layout c =
    let s = c.args in
    let from = err_from_is_err_and c.from_residual.result c.from_residual.ensures.1 in
    let both = turns_refused s.from s.to _ s.marks.now s.work.now s.out.now (sym (ap header_outcome c.in_err-layout.was) ∙ c.admit.ensures) in
    record {
      result_value = rw (from.1, from.2) both.0;
      marks_after = both.1.0;
      work_after = both.1.1.0;
      out_after = both.1.1.1;
    }

pub invariant_of-image : goal.invariant_of-image
invariant_of-image c = record { laid = admitted_laid (admits (goal.at.invariant_of-image c).In_ok-layout) }

pub words_needed-requires : goal.words_needed-requires
words_needed-requires c = let L = admitted_laid (admits (goal.at.words_needed-requires c).In_ok-layout) in (L.vertices, (L.groups, L.entries))

pub clear_words-requires : goal.clear_words-requires
clear_words-requires c = omega (arith, c.words_needed.ensures.0, admitted_words (admits (goal.at.clear_words-requires c).In_ok-layout))

pub returns-then-not-contents_sound : goal.returns-then-not-contents_sound
returns-then-not-contents_sound c =
    let both = turns_unsound _ _ _ _ _ _ (admits (goal.at.returns-then-not-contents_sound c).In_ok-layout) c.contents_sound.ensures.value c.contents_sound.ensures.marks_after c.words_needed.ensures.0 c.clear_words.ensures (ap not c.if-not-contents_sound.true) in
    record {
      result_value = both.0;
      marks_after = both.1.0;
      work_after = both.1.1.0;
      out_after = both.1.1.1;
    }

pub turn_sound-requires : goal.turn_sound-requires
turn_sound-requires c =
    let A = admits (goal.at.turn_sound-requires c).In_ok-layout in
    let p = c.requires in record {
      wide = record {
        width = admitted_wide A p.wide_from;
        known = p.known;
        wide = p.wide_to;
      };
      d_value = (λ none. admitted_one A (p.one none));
      n_in_bounds = (omega (arith, admitted_room A, c.contents_sound.auto), cleared_again _ _ c.contents_sound.ensures.marks_after);
    }

pub returns : goal.returns
returns c =
    let both = turns_turned _ _ _ _ _ _ (admits (goal.at.returns c).In_ok-layout) c.contents_sound.ensures.value (c.turn_sound.ensures.marks_unchanged ∙ c.contents_sound.ensures.marks_after) c.words_needed.ensures.0 c.clear_words.ensures (ap not c.if-not-contents_sound.false) c.turn_sound.ensures.turned in
    record {
      result_value = both.0;
      marks_after = both.1.0;
      work_after = both.1.1.0;
      out_after = both.1.1.1;
    }
