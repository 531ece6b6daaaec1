-- `exceptions_all::ask_all_exceptions` meets its contract: one of the checks up to 20 stops it, or 2 or 16, or the pairs are answered.
use mathlib.Core.Bool.{not}
use mathlib.Core.Path.{sym, ap, ◌∙◌}
use native.Mathlib.Omega.{arith}
use borrow.Author.Tests.{eq-eqb, ne_eqb, lt-ltb, le-ltb}
use lib.ListN.{length}
use Rattle.exceptions.specs.Admitted.{admitted_of}
use Rattle.exceptions.proofs.Refusals.{AdmitsLists, sound_admits, vertices_few, listed_sound, listed_belong}
use Rattle.exceptions_all.proofs.Refusals.{batch_passed, own_passed, listed_own, all_refused, all_stopped, all_answered, three_short, three_room}
use Rattle.exceptions_all.proofs.ask_all_exceptions.Goals as goal
use Rattle.exceptions_all.proofs.ask_all_exceptions.Goals.{In_ok-sound}

admits : (a : In_ok-sound) → let s = a.args in AdmitsLists s.index.now s.lists.now (length s.marks.now) a.in_ok-sound.sound
admits a = record { passes = sym (ap admitted_of a.in_ok-sound.was) ∙ a.admit_lists.ensures.result_value }

pub returns-in_err-sound : goal.returns-in_err-sound
returns-in_err-sound c =
    let s = c.args in
    let says = sym (ap admitted_of c.in_err-sound.was) ∙ c.admit_lists.ensures.result_value in
    let both = all_refused s.index.now s.lists.now s.sources.now s.targets.now s.answers.now s.marks.now says in
    record {
      own = own_passed _ _ c.from_residual.ensures.1 (listed_own s.index.now s.lists.now (length s.marks.now) says);
      result_value = batch_passed _ _ c.from_residual.ensures.1 both.0;
      marks_after = c.admit_lists.ensures.marks_after;
      answers_after = both.1;
    }

pub returns-then-pairs-targets : goal.returns-then-pairs-targets
returns-then-pairs-targets c =
    let s = c.args in
    let A = admits (goal.at.returns-then-pairs-targets c).In_ok-sound in
    let both =
    all_stopped s.index.now s.lists.now s.sources.now s.targets.now s.answers.now s.marks.now A 0 (omega arith) (ap not (ne_eqb _ _ c.if-pairs-targets.true)) in
    record {
      own = λ z. omega (arith, z);
      result_value = both.0;
      marks_after = c.admit_lists.ensures.marks_after;
      answers_after = both.1;
    }

pub returns-then-answers-pairs : goal.returns-then-answers-pairs
returns-then-answers-pairs c =
    let s = c.args in
    let A = admits (goal.at.returns-then-answers-pairs c).In_ok-sound in
    let both =
    all_stopped s.index.now s.lists.now s.sources.now s.targets.now s.answers.now s.marks.now A 1 (omega arith)
    (ap not (eq-eqb _ _ c.if-pairs-targets.false), lt-ltb _ _ (three_short _ _ c.if-answers-pairs.true)) in
    record {
      own = tt;
      result_value = both.0;
      marks_after = c.admit_lists.ensures.marks_after;
      answers_after = both.1;
    }

pub ask_sound-requires : goal.ask_sound-requires
ask_sound-requires c =
    let A = admits (goal.at.ask_sound-requires c).In_ok-sound in
    record {
      n_bound = (vertices_few (sound_admits (listed_sound A)), listed_belong A);
      sources_len = (c.if-pairs-targets.false, three_room _ _ c.if-answers-pairs.false);
    }

pub returns : goal.returns
returns c =
    let s = c.args in
    let A = admits (goal.at.returns c).In_ok-sound in
    let both =
    all_answered s.index.now s.lists.now s.sources.now s.targets.now s.answers.now s.marks.now A
    (ap not (eq-eqb _ _ c.if-pairs-targets.false), (le-ltb _ _ (three_room _ _ c.if-answers-pairs.false), tt)) c.ask_sound.ensures in
    record {
      own = tt;
      result_value = both.0;
      marks_after = c.admit_lists.ensures.marks_after;
      answers_after = both.1;
    }
