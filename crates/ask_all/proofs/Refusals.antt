-- What `ask_all` answers and leaves, by where its checks stop: at one of 10 to 13 or at 6, at 15, 2 or 16, or behind them.
use mathlib.Core.Bool.{Bool, true, false, cond}
use mathlib.Core.Path.{◌≡◌, refl, sym, subst, ◌∙◌}
use mathlib.Core.List.{List, [], ◌++◌, map}
use Prim.Native.Nat.{ℕ, ◌+◌, ◌*◌, ◌/◌, ◌≤◌}
use native.Mathlib.Omega.{arith}
use native.Mathlib.Nat.{mul-div-le}
use lib.Dec.{leb}
use lib.ListN.{length, drop}
use borrow.Author.Tests.{leb-true, ne_eqb}
use Rattle.lineage.specs.Lists.{upto, joined, cleared, Every}
use Rattle.lineage.specs.Stored.{Form, forms, form_of, header_at, counts_in, counts_fit, offsets_fit}
use Rattle.lineage.specs.Question.{answer}
use Rattle.lineage.specs.Calls.{Check, Outcome, refused, answered, outcome, any_applies, FormsTaken, words_in, form_checks, contents_check, index_in}
use Rattle.laws.proofs.Tests.{neither, both, or_false_left}
use Rattle.numbers.specs.Put.{put}
use Rattle.numbers.specs.Regions.{Kept}
use Rattle.numbers.proofs.Cleared.{cleared_past, cleared_kept}
use Rattle.stored_header.specs.declared.Layout.{Layout}
use Rattle.laws.specs.Checks.{Stops, Comes}
use Rattle.stored_header.specs.Header.{layout_in, words_of, Laid}
use Rattle.laws.proofs.Checks.{stops_outcome, stops_early, refused_comes, rest_comes}
use Rattle.stored_header.proofs.Forms.{form_each}
use Rattle.stored_header.proofs.Laid.{width_is, n_is, words_are}
use Rattle.stored_header.proofs.Admitted.{Admits, admitted, admitted_laid}
use Rattle.open.proofs.Checks.{words_cleared}
use Rattle.ask_stacked.specs.Words.{stack_words}
use Rattle.ask_pairs.specs.Pairs.{sixes, last_marks}
use Rattle.ask_all.specs.Batch.{six_of, asked_at, batch_late, batch_answer, batch_answers, batch_marks, batch_work}
use Rattle.ask_all.specs.Batched.{marks_laid, answers_laid}
use Rattle.ask_all.proofs.Sixes.{answers_are}

module _ (b sources targets marks answers : List ℕ) where
  abbrev late : List Check
  late = batch_late b sources targets (length answers)

  -- behind 6: what may be answered, and what marks and answers may hold afterwards
  abbrev pub Replies : Outcome ℕ → List ℕ → List ℕ → Type 0
  Replies o m a = (o ≡ outcome late (length sources)) × ((m ≡ marks_laid b sources targets marks (length answers)) × (a ≡ answers_laid b sources targets answers))

  module _ {l : Layout} (L : Laid b l) {m : List ℕ} (left : m ≡ cleared l.n marks) where
    -- where none applies, and the pairs are answered on marks that were cleared below n
    pub replies_answered : Stops late 3 → {m' a : List ℕ}
        → m' ≡ last_marks l.n (answer (index_in b)) sources targets (length sources) ++ drop l.n m
        → a ≡ put answers 0 (sixes l.n (answer (index_in b)) sources targets (length sources))
        → Replies (answered (length sources)) m' a
    replies_answered s e f =
        let passes : any_applies late ≡ false = stops_early late [] 3 s in
        (sym (stops_outcome (length sources) late 3 s), (e ∙ rw (passes, left, cleared_past l.n marks, n_is L) refl, f ∙ rw (passes, n_is L) refl))

  module _ (T : FormsTaken) (work : List ℕ) where
    abbrev early : List Check
    early = form_checks T b (length marks) (length work)

    -- what may be answered, and what marks, words and answers may hold afterwards
    abbrev pub Asks : Outcome ℕ → (m w a : List ℕ) → Type 0
    Asks o m w a =
        (o ≡ batch_answer T b sources targets (length marks) (length work) (length answers))
        × ((m ≡ batch_marks T b sources targets marks (length work) (length answers))
        × ((w ≡ batch_work T b (length marks) work) × (a ≡ batch_answers T b sources targets (length marks) (length work) answers)))

    -- by whether a check of 10 to 13 or 6 applies, and whether any does
    abbrev after : Bool → Bool → List ℕ
    after kept stops =
        cond stops (cond kept marks (cleared (counts_in b).n marks)) (last_marks (counts_in b).n (answer (index_in b)) sources targets (length sources) ++ drop (counts_in b).n marks)

    abbrev written : Bool → List ℕ
    written stops =
        cond stops answers (joined (map (λ i. six_of (asked_at T b sources targets (length marks) (length work) i)) (upto (length sources))) ++ drop (6 * length sources) answers)

    all_by : {o : Outcome ℕ} {kept stops : Bool} → Comes early late (length sources) o kept stops → Asks o (after kept stops) (cond kept work (cleared (words_in b) work)) (written stops)
    unfolding batch_answer batch_marks batch_work batch_answers
    all_by C = (sym C.says, (rw (C.all, C.before) refl, (rw C.before refl, rw C.all refl)))

    pub all_refused : {x y : ℕ} → refused x y ≡ outcome early (layout_in b) → Asks (refused x y) marks work answers
    all_refused e = all_by (refused_comes (length sources) (layout_in b) early [] late _ _ (sym e))

    -- or what is behind them decides, and the needed words are cleared, of which some may be altered
    module _ {l : Layout} (A : Admits T b (length marks) (length work) l) where
      six_written : (stops : Bool) → any_applies late ≡ stops
          → cond stops answers (put answers 0 (sixes (counts_in b).n (answer (index_in b)) sources targets (length sources))) ≡ written stops
      six_written true e = refl
      six_written false e = answers_are T b (length marks) (length work) (admitted A) (or_false_left (contents_check b).applies _ e) sources targets answers

      pub all_rest :
          {o : Outcome ℕ} {m a : List ℕ} → Replies o m a
          → {w w' : List ℕ} {needed : ℕ} → Kept work w 0 (words_of l) → needed ≡ words_of l → w' ≡ cleared needed w → Asks o m w' a
      all_rest (says, (leaves, writes)) {w} K need e =
          let (o, (m, (x, a))) = all_by (rest_comes (length sources) early [] late (admitted A) (sym says)) in
          let kept : Kept work w 0 (words_in b) = subst (Kept work w 0) (words_are (admitted_laid A)) K in
          (o, (leaves ∙ m, (words_cleared (admitted_laid A) need w e ∙ cleared_kept (words_in b) kept ∙ x, writes ∙ six_written (any_applies late) refl ∙ a)))

pub six_room : (a p : ℕ) → p ≤ a / 6 → 6 * p ≤ a
six_room a p h = omega (arith, mul-div-le a 6)

-- where numbers are of 16 bits there are at most 4,096 vertices
abbrev Small : Form → Type 0
Small F = F.width ≡ 2 → F.vertices ≤ 4096

forms_small : Every Small forms
forms_small = ((λ e. omega arith), ((λ e. absurd (omega (arith, e))), ((λ e. absurd (omega (arith, e))), ((λ e. absurd (omega (arith, e))), tt))))

pub small : {T : FormsTaken} {b : List ℕ} {marks words : ℕ} {l : Layout} → Admits T b marks words l → l.width ≡ 2 → l.n ≤ 4096
small {b = b} A e =
    let F : Form = form_of (header_at b 0) in
    let fits = both (leb (counts_in b).n F.vertices) _ (neither (counts_fit F (counts_in b)) (offsets_fit F (counts_in b) b) (admitted A).1.1.0).0 in
    omega (arith, n_is (admitted_laid A), leb-true (counts_in b).n F.vertices fits.0, form_each Small forms_small (header_at b 0) (sym (width_is (admitted_laid A)) ∙ e))

pub words_fit : (l : Layout) → (l.width ≡ 2 → ⊥) → stack_words l.width l.n + l.n ≤ words_of l
words_fit l e = rw (ne_eqb l.width 2 e) (omega arith)
