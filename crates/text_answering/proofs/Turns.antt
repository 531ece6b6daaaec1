-- Questions answered one after the other: the lines that are put, then those of the questions still to be asked, are all lines. A turn puts the line of the next
-- question behind them.
use mathlib.Core.List.{List, [], ◌∷◌, ◌++◌, append_assoc, append-nil}
use mathlib.Core.Path.{◌≡◌, refl, sym, ap, ◌∙◌}
use Prim.Native.Nat.{ℕ, suc, ◌+◌, ◌*◌, ◌≤◌, ◌<◌}
use native.Mathlib.Numerals.{add-one}
use native.Mathlib.Omega.{arith}
use lib.ListN.{length, get_or, drop, length-drop}
use lib.Seq.{drop-cons}
use Rattle.lineage.specs.Calls.{Outcome, Said}
use Rattle.text.specs.Output.{question_line, answer_to, answers_to}
use Rattle.text_printing.specs.Printer.{Put}
use Rattle.text_printing.proofs.Putting.{line_short, put_put, put_same, put_empty}

-- i questions are answered, and none behind them; what is put takes at most 62 bytes for each
pub record Answering (index asked entry : List ℕ) (i at : ℕ) (out : List ℕ) : Type 0 where
  pub lines : List ℕ
  pub put : Put entry 0 lines at out
  pub whole : lines ++ answers_to index (drop (2 * i) asked) ≡ answers_to index asked
  pub short : at ≤ 62 * i

pub answering_begins : (index asked entry : List ℕ) → Answering index asked entry 0 0 entry
answering_begins index asked entry = record { lines = []; put = put_empty entry 0; whole = refl; short = omega arith }

-- the next question's line and those behind it
next_line : (index asked : List ℕ) (i : ℕ) → i + 1 < length asked
    → answers_to index (drop i asked)
    ≡ question_line (get_or asked i 0) (get_or asked (i + 1) 0) (answer_to index (get_or asked i 0) (get_or asked (i + 1) 0)) ++ answers_to index (drop (i + 2) asked)
unfolding answers_to
next_line index asked i h =
    let two : suc (i + 1) ≡ i + 2 = omega arith in
    let second : drop (suc i) asked ≡ get_or asked (i + 1) 0 ∷ drop (i + 2) asked = rw (← add-one i, ← two) (drop-cons asked (i + 1) 0 h) in
    rw (drop-cons asked i 0 (omega arith), second)

-- one number alone is no question
none_left : (index asked : List ℕ) → length asked ≤ 1 → answers_to index asked ≡ []
unfolding answers_to
none_left index [] h = refl
none_left index (u ∷ []) h = refl
none_left index (u ∷ (v ∷ more)) h = absurd (omega arith)

module _ {index asked entry : List ℕ} {i at : ℕ} {out : List ℕ} (A : Answering index asked entry i at out) where
  -- there is room for a line
  pub line_room : 31 * length asked ≤ length entry → length out ≡ length entry → 2 * i + 1 < length asked → at + 61 ≤ length out
  line_room room long h = omega (arith, A.short)

  pub answering_turns : {next : ℕ} {exit : List ℕ} → 2 * i + 1 < length asked
      → Put out at (question_line (get_or asked (2 * i) 0) (get_or asked (2 * i + 1) 0) (answer_to index (get_or asked (2 * i) 0) (get_or asked (2 * i + 1) 0))) next exit
      → Answering index asked entry (i + 1) next exit
  answering_turns {next} {exit} h p =
      let u : ℕ = get_or asked (2 * i) 0 in
      let v : ℕ = get_or asked (2 * i + 1) 0 in
      let o : Outcome Said = answer_to index u v in
      let two : 2 * (i + 1) ≡ 2 * i + 2 = omega arith in
      record {
        lines = A.lines ++ question_line u v o;
        put = put_put A.put p (omega arith);
        whole =
            rw two
            (append_assoc A.lines (question_line u v o) (answers_to index (drop (2 * i + 2) asked))
            ∙ ap (λ (s : List ℕ). A.lines ++ s) (sym (next_line index asked (2 * i) h))
            ∙ A.whole);
        short = omega (arith, A.short, p.behind, line_short u v o);
      }

  -- no question is left
  pub answering_ends : length asked ≤ 2 * i + 1 → Put entry 0 (answers_to index asked) at out
  answering_ends h =
      let left : answers_to index (drop (2 * i) asked) ≡ [] = none_left index (drop (2 * i) asked) (omega (arith, length-drop (2 * i) asked)) in
      put_same (sym (append-nil A.lines) ∙ ap (λ (s : List ℕ). A.lines ++ s) (sym left) ∙ A.whole) A.put
