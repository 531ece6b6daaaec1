-- What was written by a finished conversion, as its caller has it: the first `total` bytes of the output. They open; every question, list and Monday call is answered
-- from them as from the bytes that were turned; and turned back they are those bytes. Two results that the contract allows are equal, and from form 1 to form 2 there is no 19.
use mathlib.Core.Bool.{Bool, true, false, cond}
use mathlib.Core.Path.{◌≡◌, refl, sym, ap, subst⁻¹, ◌∙◌}
use mathlib.Core.List.{List, [], ◌∷◌, ◌++◌}
use Prim.Native.Nat.{ℕ, ◌≤◌}
use native.Mathlib.Omega.{arith}
use lib.Dec.{ltb}
use lib.ListN.{length, take, drop}
use lib.Seq.{take_at}
use Rattle.std.specs.Prelude.{Result}
use Rattle.lineage.specs.Stored.{Form, form1, form2, Counts, counts_in, form_of, is_form}
use Rattle.lineage.specs.Calls.{Check, check, answered, refuse, outcome, FormsTaken, takes, words_for, words_in, contents_check, open_answer, ask_answer, ask_marks, list_answer, list_output, list_marks}
use Rattle.laws.specs.Checks.{Pass}
use Rattle.laws.proofs.Checks.{stops_early, answered_pass, answered_is, pass_front}
use Rattle.numbers.proofs.Written.{Bytes}
use Rattle.stored_header.proofs.Admitted.{header_pass}
use Rattle.ask_all.specs.Batch.{batch_answer, batch_answers, batch_marks}
use Rattle.refusals.specs.declared.Refusal.{Refusal}
use Rattle.refusals.proofs.Told.{outcome_once}
use Rattle.convert.specs.Convert.{converted, only, beyond, convert_early, convert_late, convert_answer, convert_output}
use Rattle.convert.specs.Converted.{Allowed}
use Rattle.convert.proofs.Same.{Alike, asked_same, ask_marks_same, listed_same, list_output_same, list_marks_same}
use Rattle.convert.proofs.Monday.{batched_same, batch_answers_same, batch_marks_same}
use Rattle.convert.proofs.Theorems.{fits_within, header_fit, Turnable, answered_turnable, turnable_answered, counts_kept, words_turned, turned_opens, turned_alike, turned_back, turnable_back}

module _ (from to : ℕ) (triples : (from ≤ 3) × (to ≤ 3)) (b : List ℕ) (marks work : ℕ) (out : List ℕ) {total : ℕ} (e : convert_answer from to b marks work (length out) ≡ answered total) where
  abbrev G : Form
  G = form_of to

  abbrev checks : List Check
  checks = convert_early from b marks work ++ convert_late to b (length out)

  pub turnable : Turnable from to b
  turnable = answered_turnable from to triples b marks work (length out) e

  -- the total is the length of what is written, and the output behind it is untouched
  total_is : total ≡ length (converted G b)
  unfolding convert_answer
  total_is = answered_is (length (converted G b)) checks total e

  pub output_is : convert_output from to b marks work out ≡ converted G b ++ drop total out
  unfolding convert_answer convert_output
  output_is =
      ap (λ (t : Bool). cond t out (converted G b ++ drop (length (converted G b)) out)) (stops_early checks [] 8 (answered_pass (length (converted G b)) checks total e))
      ∙ ap (λ (n : ℕ). converted G b ++ drop n out) (sym total_is)

  -- what was written
  abbrev pub turned : List ℕ
  turned = take total (convert_output from to b marks work out)

  pub turned_is : turned ≡ converted G b
  turned_is = ap (take total) output_is ∙ take_at (converted G b) (drop total out) total (sym total_is)

  -- it opens, with the same counts
  pub turned_open : (T : FormsTaken) (m w : ℕ)
      → takes T G.number ≡ true
      → (counts_in b).n ≤ m
      → words_for G.width (counts_in b) ≤ w
      → open_answer T turned m w ≡ answered (counts_in b)
  turned_open T m w taken room words = ap (λ (z : List ℕ). open_answer T z m w) turned_is ∙ turned_opens turnable T m w taken room words

  -- in a call that takes both forms, with words that suffice for each: answer, reason, groups opened, labelling and marks of a question, count, list and marks of a
  -- list, and all answers and the marks of a Monday call are kept, and so is every refusal
  module _ (T : FormsTaken) (taken : takes T from ≡ true) (taken' : takes T G.number ≡ true)
      (w w' : ℕ) (words : words_in b ≤ w) (words' : words_for G.width (counts_in b) ≤ w')
    where
      pub alike : Alike T b turned w w'
      alike = subst⁻¹ (λ (z : List ℕ). Alike T b z w w') turned_is (turned_alike turnable T w w' taken taken' words words')

      pub question_kept : (u v m : ℕ) → ask_answer T turned u v m w' ≡ ask_answer T b u v m w
      question_kept u v m = asked_same alike u v m

      pub question_marks_kept : (u v : ℕ) (m : List ℕ) → ask_marks T turned u v m w' ≡ ask_marks T b u v m w
      question_marks_kept u v m = ask_marks_same alike u v m

      pub list_kept : (u m o : ℕ) → list_answer T turned u m w' o ≡ list_answer T b u m w o
      list_kept u m o = listed_same alike u m o

      pub list_output_kept : (u m : ℕ) (o : List ℕ) → list_output T turned u m w' o ≡ list_output T b u m w o
      list_output_kept u m o = list_output_same alike u m o

      pub list_marks_kept : (u : ℕ) (m : List ℕ) → list_marks T turned u m w' ≡ list_marks T b u m w
      list_marks_kept u m = list_marks_same alike u m

      module _ (sources targets : List ℕ) where
        pub monday_kept : (m answers : ℕ) → batch_answer T turned sources targets m w' answers ≡ batch_answer T b sources targets m w answers
        monday_kept m answers = batched_same sources targets alike m answers

        pub monday_answers_kept : (m : ℕ) (answers : List ℕ) → batch_answers T turned sources targets m w' answers ≡ batch_answers T b sources targets m w answers
        monday_answers_kept m answers = batch_answers_same sources targets alike m answers

        pub monday_marks_kept : (m : List ℕ) (answers : ℕ) → batch_marks T turned sources targets m w' answers ≡ batch_marks T b sources targets m w answers
        monday_marks_kept m answers = batch_marks_same sources targets alike m answers

-- There and back: turned back, what was written gives the bytes that there were, where marks, words and output suffice.
module _ (from to : ℕ) (triples : (from ≤ 3) × (to ≤ 3)) (known : is_form to ≡ true) (b : List ℕ) (small : Bytes b) (marks work : ℕ) (out : List ℕ) {total : ℕ}
    (e : convert_answer from to b marks work (length out) ≡ answered total)
    (m w : ℕ) (back : List ℕ) (room : (counts_in b).n ≤ m) (words : words_for (form_of to).width (counts_in b) ≤ w) (fits : length b ≤ length back)
  where
    abbrev C : Turnable from to b
    C = turnable from to triples b marks work out e

    abbrev there : List ℕ
    there = turned from to triples b marks work out e

    there_is : there ≡ converted (form_of to) b
    there_is = turned_is from to triples b marks work out e

    again : converted (form_of from) (converted (form_of to) b) ≡ b
    again = turned_back C small

    pub back_answers : convert_answer to from there m w (length back) ≡ answered (length b)
    back_answers =
        let n : (counts_in (converted (form_of to) b)).n ≡ (counts_in b).n = ap (λ (a : Counts). a.n) (counts_kept C) in
        let long : length (converted (form_of from) (converted (form_of to) b)) ≡ length b = ap length again in
        ap (λ (z : List ℕ). convert_answer to from z m w (length back)) there_is
        ∙ turnable_answered (turnable_back C known) m w (length back) (omega arith) (subst⁻¹ (λ (x : ℕ). x ≤ w) (words_turned C) words) (omega arith)
        ∙ ap answered long

    pub back_written : convert_output to from there m w back ≡ b ++ drop (length b) back
    back_written =
        output_is to from (triples.1, triples.0) there m w back back_answers
        ∙ ap (λ (z : List ℕ). z ++ drop (length b) back) (ap (converted (form_of from)) there_is ∙ again)

-- A check that cannot apply where those before it pass is none.
skip_behind : {A : Type 0} (a : A) (early : List Check) (c : Check) (rest : List Check) → (Pass early → c.applies ≡ false)
    → outcome (early ++ (c ∷ rest)) a ≡ outcome (early ++ rest) a
skip_behind a [] c rest h = rw (h tt)
skip_behind a (d ∷ early) c rest h = at d.applies (λ e. skip_behind a early c rest (λ p. h (e, p)))
  where
    at : (t : Bool) → (t ≡ false → outcome (early ++ (c ∷ rest)) a ≡ outcome (early ++ rest) a)
        → refuse t d.number d.extra (outcome (early ++ (c ∷ rest)) a) ≡ refuse t d.number d.extra (outcome (early ++ rest) a)
    at true ih = refl
    at false ih = ih refl

-- from form 1 to form 2 there is no 19: form 1's bounds are within form 2's
pub up_answer : (b : List ℕ) (marks work out : ℕ)
    → convert_answer 1 2 b marks work out
    ≡ (let needed : ℕ = length (converted form2 b) in
    outcome (convert_early 1 b marks work ++ (contents_check b ∷ check (ltb out needed) 9 needed ∷ [])) needed)
unfolding convert_answer
up_answer b marks work out =
    let needed : ℕ = length (converted form2 b) in
    let early : List Check = convert_early 1 b marks work in
    skip_behind needed (early ++ (contents_check b ∷ [])) (check (beyond form2 (counts_in b)) 19 0) (check (ltb out needed) 9 needed ∷ [])
    (λ p. fits_within form1 form2 (omega arith) (omega arith) (counts_in b) (header_fit 1 b (header_pass (only 1) b marks work (pass_front early (contents_check b ∷ []) p))))

-- Two results that the contract allows are equal.
pub converted_once : {from to : ℕ} {b marks work out : List ℕ} {r r' : Result ℕ Refusal} {m m' w w' o o' : List ℕ}
    → Allowed from to b marks work out r m w o
    → Allowed from to b marks work out r' m' w' o'
    → (r ≡ r') × ((m ≡ m') × ((w ≡ w') × (o ≡ o')))
converted_once A B =
    (outcome_once (λ total. total) (λ t t' e. e) _ _ (A.answers ∙ sym B.answers), (A.leaves ∙ sym B.leaves, (A.clears ∙ sym B.clears, A.writes ∙ sym B.writes)))
