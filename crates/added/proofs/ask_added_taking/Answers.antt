-- `added::ask_added_taking` meets its contract: each return is where its checks stop, and behind 15 the question over sound bytes decides, over marks that the check of the
-- contents has cleared.
use mathlib.Core.Bool.{not}
use mathlib.Core.Path.{sym, ap, ◌∙◌}
use lib.ListN.{length}
use Rattle.std.proofs.lemmas.Result.{err_from_is_err_and}
use Rattle.lineage.specs.Calls.{forms_taken}
use Rattle.numbers.proofs.Cleared.{cleared_again}
use Rattle.stored_header.specs.Header.{header_outcome}
use Rattle.stored_header.proofs.Laid.{vertex_out, vertex_in}
use Rattle.stored_header.proofs.Admitted.{Admits, admitted_laid}
use Rattle.open.proofs.Called.{called_refused, called_at, called_unsound, called_late}
use Rattle.added.proofs.Refusals.{answers, edges_in}
use Rattle.added.proofs.ask_added_taking.Goals as goal
use Rattle.added.proofs.ask_added_taking.Goals.{In_ok-l}

admits : (a : In_ok-l) → let s = a.args in
    Admits (forms_taken s.least s.most) s.index.now (length s.marks.now) (length s.work.now) a.in_ok-l.l
admits a = record { passes = sym (ap header_outcome a.in_ok-l.was) ∙ a.admit.ensures }

pub returns-in_err-l : goal.returns-in_err-l
returns-in_err-l c =
    let from = err_from_is_err_and c.from_residual.result c.from_residual.ensures.1 in
    rw (from.1, from.2) (answers c.args.state c.args.source c.args.target (called_refused (sym (ap header_outcome c.in_err-l.was) ∙ c.admit.ensures)))

pub returns-then-n-u : goal.returns-then-n-u
returns-then-n-u c = let A = admits (goal.at.returns-then-n-u c).In_ok-l in answers c.args.state c.args.source c.args.target
    (called_at A 0 (vertex_out (admitted_laid A) c.if-n-u.true))

pub returns-then-n-v : goal.returns-then-n-v
returns-then-n-v c =
    let A = admits (goal.at.returns-then-n-v c).In_ok-l in
    answers c.args.state c.args.source c.args.target (called_at A 1 (vertex_in (admitted_laid A) c.if-n-u.false, vertex_out (admitted_laid A) c.if-n-v.true))

pub invariant_of-image : goal.invariant_of-image
invariant_of-image c = record { laid = admitted_laid (admits (goal.at.invariant_of-image c).In_ok-l) }

pub words_needed-requires : goal.words_needed-requires
words_needed-requires c = let L = admitted_laid (admits (goal.at.words_needed-requires c).In_ok-l) in (L.vertices, (L.groups, L.entries))

pub returns-then-not-contents_sound : goal.returns-then-not-contents_sound
returns-then-not-contents_sound c =
    let A = admits (goal.at.returns-then-not-contents_sound c).In_ok-l in
    let says = c.contents_sound.ensures in
    answers c.args.state c.args.source c.args.target
    (called_unsound A (vertex_in (admitted_laid A) c.if-n-u.false, (vertex_in (admitted_laid A) c.if-n-v.false, tt)) says.value says.marks_after
    c.words_needed.ensures.0 c.clear_words.ensures
    (ap not c.if-not-contents_sound.true))

pub ask_sound-requires-clause-marks_value : goal.ask_sound-requires-clause-marks_value
ask_sound-requires-clause-marks_value c = cleared_again _ _ c.contents_sound.ensures.marks_after

pub returns : goal.returns
returns c =
    let A = admits (goal.at.returns c).In_ok-l in
    let L = admitted_laid A in
    let says = c.contents_sound.ensures in
    let asks = c.ask_sound.ensures in
    answers c.args.state c.args.source c.args.target
    (called_late A (vertex_in L c.if-n-u.false, (vertex_in L c.if-n-v.false, tt)) says.value (asks.marks_unchanged ∙ says.marks_after) c.words_needed.ensures.0
    c.clear_words.ensures (ap not c.if-not-contents_sound.false) (edges_in L c.args.state _ asks.result_value))
