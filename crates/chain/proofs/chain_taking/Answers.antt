-- `chain::chain_taking` meets its contract: each return is where its checks stop, and behind 15 the chain of sound bytes decides, over marks that the check of the
-- contents has cleared.
use mathlib.Core.Bool.{not}
use mathlib.Core.Path.{refl, sym, ap, ◌∙◌}
use lib.ListN.{length}
use Rattle.std.proofs.lemmas.Result.{err_from_is_err_and}
use Rattle.lineage.specs.Calls.{forms_taken}
use Rattle.numbers.proofs.Cleared.{cleared_again}
use Rattle.stored_header.specs.Header.{header_outcome}
use Rattle.stored_header.proofs.Laid.{vertex_out, vertex_in}
use Rattle.stored_header.proofs.Admitted.{Admits, admitted_laid}
use Rattle.open.proofs.Called.{called_refused, called_at, called_unsound, called_late}
use Rattle.chain.proofs.Refusals.{chains}
use Rattle.chain.proofs.chain_taking.Goals as goal
use Rattle.chain.proofs.chain_taking.Goals.{In_ok-l}

admits : (a : In_ok-l) → let s = a.args in
    Admits (forms_taken s.least s.most) s.index.now (length s.marks.now) (length s.work.now) a.in_ok-l.l
admits a = record { passes = sym (ap header_outcome a.in_ok-l.was) ∙ a.admit.ensures }

pub returns-in_err-l : goal.returns-in_err-l
returns-in_err-l c =
    let from = err_from_is_err_and c.from_residual.result c.from_residual.ensures.1 in
    rw (from.1, from.2) (chains c.args.source c.args.target c.args.steps.now (called_refused (sym (ap header_outcome c.in_err-l.was) ∙ c.admit.ensures)) refl)

pub returns-then-n-u : goal.returns-then-n-u
returns-then-n-u c = let A = admits (goal.at.returns-then-n-u c).In_ok-l in chains c.args.source c.args.target c.args.steps.now
    (called_at A 0 (vertex_out (admitted_laid A) c.if-n-u.true)) refl

pub returns-then-n-v : goal.returns-then-n-v
returns-then-n-v c =
    let A = admits (goal.at.returns-then-n-v c).In_ok-l in
    chains c.args.source c.args.target c.args.steps.now (called_at A 1 (vertex_in (admitted_laid A) c.if-n-u.false, vertex_out (admitted_laid A) c.if-n-v.true)) refl

pub invariant_of-image : goal.invariant_of-image
invariant_of-image c = record { laid = admitted_laid (admits (goal.at.invariant_of-image c).In_ok-l) }

pub words_needed-requires : goal.words_needed-requires
words_needed-requires c = let L = admitted_laid (admits (goal.at.words_needed-requires c).In_ok-l) in (L.vertices, (L.groups, L.entries))

pub returns-then-not-contents_sound : goal.returns-then-not-contents_sound
returns-then-not-contents_sound c =
    let A = admits (goal.at.returns-then-not-contents_sound c).In_ok-l in
    let says = c.contents_sound.ensures in
    chains c.args.source c.args.target c.args.steps.now
    (called_unsound A (vertex_in (admitted_laid A) c.if-n-u.false, (vertex_in (admitted_laid A) c.if-n-v.false, tt)) says.value says.marks_after
    c.words_needed.ensures.0 c.clear_words.ensures
    (ap not c.if-not-contents_sound.true))
    refl

pub chain_sound-requires-clause-marks_value : goal.chain_sound-requires-clause-marks_value
chain_sound-requires-clause-marks_value c = cleared_again _ _ c.contents_sound.ensures.marks_after

pub returns : goal.returns
returns c =
    let A = admits (goal.at.returns c).In_ok-l in
    let says = c.contents_sound.ensures in
    let shows = c.chain_sound.ensures in
    chains c.args.source c.args.target c.args.steps.now
    (called_late A (vertex_in (admitted_laid A) c.if-n-u.false, (vertex_in (admitted_laid A) c.if-n-v.false, tt)) says.value (shows.marks_unchanged ∙ says.marks_after)
    c.words_needed.ensures.0 c.clear_words.ensures
    (ap not c.if-not-contents_sound.false) shows.shows.answers)
    shows.shows.writes
