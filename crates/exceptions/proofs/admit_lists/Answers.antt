-- `exceptions::admit_lists` meets its contract: one of the checks up to 15 stops it, or 20, or none.
use mathlib.Core.Path.{sym, ap, ◌∙◌}
use native.Mathlib.Omega.{arith}
use lib.ListN.{length}
use Rattle.stored_header.proofs.Admitted.{admitted_room}
use Rattle.exceptions.specs.Admitted.{admitted_of}
use Rattle.exceptions.proofs.Refusals.{AdmitsSound, passed_on, marks_clear, lists_refused, sound_admits, groups_few}
use Rattle.exceptions.proofs.admit_lists.Goals as goal
use Rattle.exceptions.proofs.admit_lists.Goals.{In_ok-sound}

admits : (a : In_ok-sound) → let s = a.args in AdmitsSound s.index.now (length s.marks.now) a.in_ok-sound.sound
admits a = record { passes = sym (ap admitted_of a.in_ok-sound.was) ∙ a.admit_sound.ensures.result_value }

pub returns-in_err-sound : goal.returns-in_err-sound
returns-in_err-sound c =
    record {
      result_value =
          passed_on _ _ _ c.from_residual.ensures.1 (lists_refused _ c.args.marks.now c.args.lists.now (sym (ap admitted_of c.in_err-sound.was) ∙ c.admit_sound.ensures.result_value));
      marks_after = c.admit_sound.ensures.marks_after;
    }

pub exceptions_match-requires : goal.exceptions_match-requires
exceptions_match-requires c =
    let A = admits (goal.at.exceptions_match-requires c).In_ok-sound in
    record {
      n_in_bounds = (omega (arith, admitted_room (sound_admits A), c.admit_sound.auto), marks_clear _ _ (sound_admits A) c.admit_sound.ensures.marks_after);
      k_bound = groups_few A;
    }
