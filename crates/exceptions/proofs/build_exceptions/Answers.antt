-- `exceptions::build_exceptions` meets its contract: one of the checks up to 15 stops it, or the lists of sound bytes decide, over marks that are 0 below n.
use mathlib.Core.Path.{sym, ap, ◌∙◌}
use native.Mathlib.Omega.{arith}
use lib.ListN.{length}
use Rattle.stored_header.proofs.Admitted.{admitted_room}
use Rattle.exceptions.specs.Admitted.{admitted_of}
use Rattle.exceptions.proofs.Refusals.{AdmitsSound, passed_on, marks_clear, builds_refused, builds_filled, vertices_few, sound_admits}
use Rattle.exceptions.proofs.build_exceptions.Goals as goal
use Rattle.exceptions.proofs.build_exceptions.Goals.{In_ok-sound}

admits : (a : In_ok-sound) → let s = a.args in AdmitsSound s.index.now (length s.marks.now) a.in_ok-sound.sound
admits a = record { passes = sym (ap admitted_of a.in_ok-sound.was) ∙ a.admit_sound.ensures.result_value }

pub returns-in_err-sound : goal.returns-in_err-sound
returns-in_err-sound c =
    let both = builds_refused _ c.args.marks.now c.args.out.now (sym (ap admitted_of c.in_err-sound.was) ∙ c.admit_sound.ensures.result_value) in
    record {
      result_value = passed_on _ _ _ c.from_residual.ensures.1 both.0;
      marks_after = c.admit_sound.ensures.marks_after;
      out_after = both.1;
    }

pub build_sound-requires : goal.build_sound-requires
build_sound-requires c =
    let A = admits (goal.at.build_sound-requires c).In_ok-sound in
    record {
      n_in_bounds = (omega (arith, admitted_room (sound_admits A), c.admit_sound.auto), marks_clear _ _ (sound_admits A) c.admit_sound.ensures.marks_after);
      n_bound = vertices_few (sound_admits A);
    }

pub returns : goal.returns
returns c =
    let both = builds_filled _ c.args.marks.now _ (admits (goal.at.returns c).In_ok-sound) c.build_sound.ensures.fills in
    record {
      result_value = both.0;
      marks_after = c.build_sound.ensures.marks_unchanged ∙ c.admit_sound.ensures.marks_after;
      out_after = both.1;
    }
