-- `exceptions::open_exceptions` meets its contract: one of its checks stops it, or none does, and lists that belong begin with k and the number of entries.
use mathlib.Core.List.{List}
use mathlib.Core.Path.{refl, sym, ap, ◌∙◌}
use Prim.Native.Nat.{ℕ}
use native.Mathlib.Omega.{arith}
use lib.ListN.{length}
use Rattle.lineage.specs.Calls.{answered, index_in}
use Rattle.exceptions.specs.Calls.{list_counts}
use Rattle.exceptions.specs.Admitted.{admitted_of}
use Rattle.sound_places.proofs.Images.{sound_bytes}
use Rattle.exceptions_marks.proofs.Fitted.{groups_many}
use Rattle.exceptions.proofs.Filled.{lists_read, counts_are}
use Rattle.exceptions.proofs.Refusals.{AdmitsLists, passed_on, opens_refused, opens_done, sound_bytes_are, groups_few, listed_passed, listed_sound, listed_belong}
use Rattle.exceptions.proofs.open_exceptions.Goals as goal
use Rattle.exceptions.proofs.open_exceptions.Goals.{In_ok-sound}

admits : (a : In_ok-sound) → let s = a.args in AdmitsLists s.index.now s.lists.now (length s.marks.now) a.in_ok-sound.sound
admits a = record { passes = sym (ap admitted_of a.in_ok-sound.was) ∙ a.admit_lists.ensures.result_value }

pub returns-in_err-sound : goal.returns-in_err-sound
returns-in_err-sound c =
    record {
      result_value =
          passed_on _ _ _ c.from_residual.ensures.1 (opens_refused _ c.args.marks.now c.args.lists.now (sym (ap admitted_of c.in_err-sound.was) ∙ c.admit_lists.ensures.result_value));
      marks_after = c.admit_lists.ensures.marks_after;
    }

pub num-requires : goal.num-requires
num-requires c =
    let A = admits (goal.at.num-requires c).In_ok-sound in
    record {
      width = record { low = omega arith; high = omega arith; even = refl };
      w_in_bounds = lists_read (index_in c.in_ok-sound.sound.image.bytes.now) (groups_many (sound_bytes c.in_ok-sound.sound)) (groups_few (listed_sound A)) (listed_belong A);
    }

pub returns : goal.returns
returns c =
    let A = admits (goal.at.returns c).In_ok-sound in
    record {
      result_value =
          counts_are (index_in c.in_ok-sound.sound.image.bytes.now) (groups_many (sound_bytes c.in_ok-sound.sound)) (groups_few (listed_sound A)) (listed_belong A) c.num.ensures.0
          ∙ ap (λ (b : List ℕ). answered (list_counts (index_in b))) (sound_bytes_are (listed_sound A))
          ∙ opens_done _ c.args.marks.now c.args.lists.now (listed_passed A);
      marks_after = c.admit_lists.ensures.marks_after;
    }
