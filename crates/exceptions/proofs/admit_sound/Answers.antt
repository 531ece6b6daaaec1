-- `exceptions::admit_sound` meets its contract: one of 10 to 13 stops it, or 15, or none.
use mathlib.Core.Bool.{not}
use mathlib.Core.Path.{sym, ap, ◌∙◌}
use lib.ListN.{length}
use Rattle.lineage.specs.Calls.{answered, host}
use Rattle.stored_header.specs.declared.Layout.{Layout}
use Rattle.stored_header.specs.Header.{header_outcome}
use Rattle.stored_header.proofs.Admitted.{Admits, admitted_laid}
use Rattle.open.proofs.Checks.{contents_applies}
use Rattle.exceptions.proofs.Refusals.{passed_on, marks_kept, marks_cleared, sound_refused, sound_at}
use Rattle.exceptions.proofs.admit_sound.Goals as goal
use Rattle.exceptions.proofs.admit_sound.Goals.{In_ok-layout}

admits : (a : In_ok-layout) → let s = a.args in Admits host s.index.now (length s.marks.now) 0 a.in_ok-layout.layout
admits a = record { passes = sym (ap header_outcome a.in_ok-layout.was) ∙ a.admit.ensures }

pub returns-in_err-layout : goal.returns-in_err-layout
returns-in_err-layout c =
    let e = sym (ap header_outcome c.in_err-layout.was) ∙ c.admit.ensures in
    record {
      result_value = passed_on _ _ _ c.from_residual.ensures.1 (sound_refused _ c.args.marks.now e);
      marks_after = marks_kept _ _ e;
    }

pub invariant_of-image : goal.invariant_of-image
invariant_of-image c = record { laid = admitted_laid (admits (goal.at.invariant_of-image c).In_ok-layout) }

pub returns-then-not-contents_sound : goal.returns-then-not-contents_sound
returns-then-not-contents_sound c =
    let A = admits (goal.at.returns-then-not-contents_sound c).In_ok-layout in
    record {
      result_value = sound_at _ c.args.marks.now A 0 (contents_applies (admitted_laid A) c.contents_sound.ensures.value ∙ ap not c.if-not-contents_sound.true);
      marks_after = marks_cleared _ _ A c.contents_sound.ensures.marks_after;
    }

pub returns : goal.returns
returns c =
    let A = admits (goal.at.returns c).In_ok-layout in
    record {
      result_value =
          ap (λ (l : Layout). answered (c.args.index.now, l)) (admitted_laid A).is
          ∙ sound_at _ c.args.marks.now A 1 (contents_applies (admitted_laid A) c.contents_sound.ensures.value ∙ ap not c.if-not-contents_sound.false, tt);
      marks_after = marks_cleared _ _ A c.contents_sound.ensures.marks_after;
    }
