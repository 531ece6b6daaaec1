-- What `ask` answers and leaves, by where its checks stop: at one of 10 to 13 or at 6, at 14 for the source or the target, at 15, or behind it.
use mathlib.Core.Bool.{Bool, true, false, cond}
use mathlib.Core.Path.{◌≡◌, refl, sym, ap, ◌∙◌}
use mathlib.Core.List.{List, [], ◌∷◌, ◌++◌}
use Prim.Native.Nat.{ℕ, ◌≤◌}
use native.Mathlib.Omega.{arith}
use lib.Dec.{leb}
use lib.ListN.{length, drop}
use Rattle.lineage.specs.Lists.{cleared}
use Rattle.lineage.specs.Stored.{counts_in}
use Rattle.lineage.specs.Question.{Answer, answer}
use Rattle.lineage.specs.Calls.{Check, check, Outcome, refused, answered, outcome, FormsTaken, words_in, form_checks, contents_check, index_in, Said, said_of, ask_early, ask_answer, ask_marks, ask_work}
use Rattle.numbers.specs.Regions.{Kept}
use Rattle.numbers.proofs.Cleared.{cleared_past, cleared_kept}
use Rattle.numbers.proofs.Regions.{kept_wider}
use Rattle.stored_header.specs.declared.Layout.{Layout}
use Rattle.laws.specs.Checks.{Comes}
use Rattle.stored_header.specs.Header.{counts, layout_in, words_of, Laid}
use Rattle.laws.proofs.Checks.{stops_outcome, pass_both, refused_comes, stops_comes, rest_comes}
use Rattle.stored_header.proofs.Laid.{n_is, words_are}
use Rattle.stored_header.proofs.Admitted.{Admits, admitted, admitted_laid}
use Rattle.open.proofs.Checks.{words_cleared}
use Rattle.ask_stacked.specs.Words.{stack_words}
use Rattle.ask_stacked.proofs.Words.{stack_needed}
use Rattle.ask.specs.declared.Asked.{Asked}
use Rattle.ask.specs.Replies.{answer_by}
use Rattle.ask.specs.Asked.{said_by, marks_laid}

-- the needed words suffice for the stack
pub stack_fits : (l : Layout) → stack_words l.width l.n ≤ words_of l
stack_fits l = stack_needed l.width (counts l.n l.k l.c l.d)

module _ (b : List ℕ) (u v : ℕ) (marks : List ℕ) where
  abbrev late : List Check
  late = contents_check b ∷ []

  abbrev said : Said
  said = said_of (answer (index_in b) u v)

  -- behind 14: 15, or the answer of a question that replies q on marks that were cleared below n
  abbrev pub Replies : Outcome Said → List ℕ → Type 0
  Replies o m = (o ≡ outcome late said) × (m ≡ marks_laid b u v marks)

  module _ {l : Layout} (L : Laid b l) {m : List ℕ} (left : m ≡ cleared l.n marks) where
    pub replies_answered : (contents_check b).applies ≡ false → (q : Asked) (m' : List ℕ) → answer_by q m' ≡ answer (index_in b) u v
        → Replies (answered (said_by q)) (m' ++ drop l.n m)
    replies_answered s q m' e =
        let same : m' ++ drop l.n m ≡ (answer_by q m').marks ++ drop (counts_in b).n marks = rw (left, cleared_past l.n marks, n_is L) refl in
        (ap (λ (a : Answer). answered (said_of a)) e ∙ sym (stops_outcome said late 1 (s, tt)), same ∙ ap (λ (a : Answer). a.marks ++ drop (counts_in b).n marks) e ∙ rw s refl)

  module _ (T : FormsTaken) (work : List ℕ) where
    abbrev early : List Check
    early = form_checks T b (length marks) (length work)

    -- 14
    abbrev own : List Check
    own = check (leb (counts_in b).n u) 14 0 ∷ check (leb (counts_in b).n v) 14 1 ∷ []

    -- the marks afterwards, by whether a check of 10 to 14 or 6 applies, and whether any does
    abbrev after : Bool → Bool → List ℕ
    after kept stops = cond stops (cond kept marks (cleared (counts_in b).n marks)) ((answer (index_in b) u v).marks ++ drop (counts_in b).n marks)

    -- what may be answered, and what marks and words may hold afterwards
    abbrev pub Asks : Outcome Said → List ℕ → List ℕ → Type 0
    Asks o m w =
        (o ≡ ask_answer T b u v (length marks) (length work)) × ((m ≡ ask_marks T b u v marks (length work)) × (w ≡ ask_work T b u v (length marks) work))

    asks_by : {o : Outcome Said} {kept stops : Bool}
        → Comes (ask_early T b u v (length marks) (length work)) late said o kept stops → Asks o (after kept stops) (cond kept work (cleared (words_in b) work))
    unfolding ask_answer ask_marks ask_work
    asks_by C = (sym C.says, (rw (C.all, C.before), rw C.before))

    pub asks_refused : {x y : ℕ} → refused x y ≡ outcome early (layout_in b) → Asks (refused x y) marks work
    asks_refused e = asks_by (refused_comes said (layout_in b) early own late _ _ (sym e))

    module _ {l : Layout} (A : Admits T b (length marks) (length work) l) where
      -- behind 6 they stop at 14, for the source or for the target
      pub asks_source : leb (counts_in b).n u ≡ true → Asks (refused 14 0) marks work
      asks_source s = asks_by (stops_comes said early own late 0 (admitted A) s)

      pub asks_target : leb (counts_in b).n u ≡ false → leb (counts_in b).n v ≡ true → Asks (refused 14 1) marks work
      asks_target r s = asks_by (stops_comes said early own late 1 (admitted A) (r, s))

      -- or what is behind it decides, and the needed words are cleared, of which the walk has altered some
      pub asks_rest :
          leb (counts_in b).n u ≡ false → leb (counts_in b).n v ≡ false → {o : Outcome Said} {m : List ℕ} → Replies o m
          → {w w' : List ℕ} {needed : ℕ} → Kept work w 0 (stack_words l.width l.n) → needed ≡ words_of l → w' ≡ cleared needed w → Asks o m w'
      asks_rest r s (says, leaves) {w} K need e =
          let (a, (k, x)) = asks_by (rest_comes said (ask_early T b u v (length marks) (length work)) [] late (pass_both early own (admitted A) (r, (s, tt))) (sym says)) in
          (a, (leaves ∙ k, words_cleared (admitted_laid A) need w e ∙ cleared_kept _ (kept_wider {base = 0} {size = stack_words l.width l.n} 0 (words_in b) (omega arith) (omega (arith, stack_fits l, words_are (admitted_laid A))) K) ∙ x))
