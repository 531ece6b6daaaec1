-- `exceptions::ask_exceptions` meets its contract: one of the checks up to 20 stops it, or 14, or the question by lists that belong decides.
use mathlib.Core.List.{List}
use Prim.Native.Nat.{ℕ}
use mathlib.Core.Path.{sym, ap, ◌∙◌}
use lib.ListN.{length}
use Rattle.lineage.specs.Calls.{answered, index_in}
use Rattle.laws_exceptions.specs.Exceptions.{says_by_exceptions}
use Rattle.exceptions.specs.Admitted.{admitted_of}
use Rattle.stored_header.proofs.Admitted.{admitted_laid}
use Rattle.stored_header.proofs.Laid.{vertex_out, vertex_in}
use Rattle.exceptions.proofs.Refusals.{AdmitsLists, passed_on, asks_refused, asks_at, sound_bytes_are, sound_admits, groups_few, listed_passed, listed_sound, listed_belong}
use Rattle.exceptions.proofs.ask_exceptions.Goals as goal
use Rattle.exceptions.proofs.ask_exceptions.Goals.{In_ok-sound}

admits : (a : In_ok-sound) → let s = a.args in AdmitsLists s.index.now s.lists.now (length s.marks.now) a.in_ok-sound.sound
admits a = record { passes = sym (ap admitted_of a.in_ok-sound.was) ∙ a.admit_lists.ensures.result_value }

pub returns-in_err-sound : goal.returns-in_err-sound
returns-in_err-sound c =
    record {
      result_value = passed_on _ _ _ c.from_residual.ensures.1 (asks_refused _ c.args.marks.now _ _ _ (sym (ap admitted_of c.in_err-sound.was) ∙ c.admit_lists.ensures.result_value));
      marks_after = c.admit_lists.ensures.marks_after;
    }

pub returns-then-n-u : goal.returns-then-n-u
returns-then-n-u c =
    let A = admits (goal.at.returns-then-n-u c).In_ok-sound in
    record {
      result_value = asks_at _ c.args.marks.now _ _ _ (listed_passed A) 0 (vertex_out (admitted_laid (sound_admits (listed_sound A))) c.if-n-u.true);
      marks_after = c.admit_lists.ensures.marks_after;
    }

pub returns-then-n-v : goal.returns-then-n-v
returns-then-n-v c =
    let A = admits (goal.at.returns-then-n-v c).In_ok-sound in
    let L = admitted_laid (sound_admits (listed_sound A)) in
    record {
      result_value = asks_at _ c.args.marks.now _ _ _ (listed_passed A) 1 (vertex_in L c.if-n-u.false, vertex_out L c.if-n-v.true);
      marks_after = c.admit_lists.ensures.marks_after;
    }

pub says-requires : goal.says-requires
says-requires c =
    let A = admits (goal.at.says-requires c).In_ok-sound in
    record {
      u_lt_n = (c.if-n-u.false, (c.if-n-v.false, groups_few (listed_sound A)));
      lists_value = listed_belong A;
    }

pub returns : goal.returns
returns c =
    let A = admits (goal.at.returns c).In_ok-sound in
    let L = admitted_laid (sound_admits (listed_sound A)) in
    record {
      result_value = ap answered (c.says.ensures ∙ ap (λ (b : List ℕ). says_by_exceptions (index_in b) c.args.source c.args.target) (sound_bytes_are (listed_sound A)))
          ∙ asks_at _ c.args.marks.now _ _ _ (listed_passed A) 2 (vertex_in L c.if-n-u.false, (vertex_in L c.if-n-v.false, tt));
      marks_after = c.admit_lists.ensures.marks_after;
    }
