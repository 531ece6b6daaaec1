-- What was written by a finished conversion between forms 2 and 4, as its caller has it: the first `total` bytes of the output. They open; every question is answered from them
-- as from the bytes that were turned; turned back they are those bytes. Back to form 2 neither 4 nor 22 is given, and what is written has m = s. Two results that the contract
-- allows are equal.
use mathlib.Core.Bool.{Bool, true, false, not, ◌&&◌, cond}
use mathlib.Core.Path.{◌≡◌, refl, sym, ap, ap₂, subst⁻¹, ◌∙◌}
use mathlib.Core.List.{List, [], ◌∷◌, ◌++◌}
use Prim.Native.Nat.{ℕ, ◌+◌, ◌≤◌}
use native.Mathlib.Omega.{arith}
use lib.Dec.{eqb, leb, ltb}
use lib.ListN.{length, take, drop}
use lib.Seq.{take_at}
use borrow.Author.Tests.{le-leb, leb-true, le-ltb, eqb-true, eq-eqb, not-false}
use Rattle.lineage.specs.Sound.{is_tree}
use Rattle.lineage.specs.Stored.{Form, form2, Counts, counts_in, header_at, form_of, is_form, counts_fit}
use Rattle.lineage.specs.Calls.{Check, check, answered, outcome, FormsTaken, forms_taken, takes, words_for, words_in, contents_check, index_in, open_answer, ask_answer, ask_marks}
use Rattle.laws.specs.Checks.{Pass}
use Rattle.laws.proofs.Tests.{and_both, both, clash}
use Rattle.laws.proofs.Checks.{stops_early, stops_outcome, answered_pass, answered_is, pass_front, pass_behind, pass_both}
use Rattle.laws_hierarchy.specs.Hierarchy.{Alike}
use Rattle.laws_hierarchy.proofs.Pairs.{pairs_alike}
use Rattle.numbers.proofs.Written.{Bytes}
use Rattle.stored_header.specs.Header.{header_checks}
use Rattle.stored_header.proofs.Forms.{form_each}
use Rattle.stored_header.proofs.Admitted.{header_pass, lent_pass}
use Rattle.std.specs.Prelude.{Result}
use Rattle.refusals.specs.declared.Refusal.{Refusal}
use Rattle.refusals.proofs.Told.{outcome_once}
use Rattle.convert.specs.Convert.{converted, only, convert_early}
use Rattle.convert.proofs.Same.{Alike as SameIndex, Fewer, none, keep, pass, fewer_outcome, asked_same, ask_marks_same}
use Rattle.convert.proofs.Theorems.{header_fit, Turnable, counts_kept, index_kept, words_turned, turned_opens, turned_alike, turned_back, turnable_back}
use Rattle.hierarchy.specs.Turn.{turn_late, turn_answer, turn_output}
use Rattle.hierarchy.specs.Turned.{Allowed}
use Rattle.hierarchy.proofs.Admitted.{number_is, form_is}
use Rattle.hierarchy.proofs.Taken.{asked_as, ask_marks_as}

-- a form of plain hierarchies takes one labelling
tree_single : (number : ℕ) → (form_of number).tree ≡ true → (form_of number).labellings ≡ 1
tree_single = form_each (λ F. F.tree ≡ true → F.labellings ≡ 1) ((λ t. clash t refl), ((λ t. clash t refl), ((λ t. clash t refl), ((λ t. refl), tt))))

-- two forms with the same bounds; one that is not of plain hierarchies takes as many labellings as the other
pub record Alongside (from to : ℕ) : Type 0 where
  pub known : is_form to ≡ true
  pub vertices : (form_of to).vertices ≡ (form_of from).vertices
  pub entries : (form_of to).entries ≡ (form_of from).entries
  pub few : (form_of to).tree ≡ false → (form_of from).labellings ≤ (form_of to).labellings

pub to_4 : Alongside 2 4
to_4 = record { known = refl; vertices = refl; entries = refl; few = λ t. clash refl t }

pub to_2 : Alongside 4 2
to_2 = record { known = refl; vertices = refl; entries = refl; few = λ t. omega arith }

-- What is finished can be turned.
module _ (from to : ℕ) (S : Alongside from to) (b : List ℕ) (marks work : ℕ) (out : List ℕ) {total : ℕ} (e : turn_answer from to b marks work (length out) ≡ answered total) where
  abbrev F : Form
  F = form_of from

  abbrev G : Form
  G = form_of to

  abbrev a : Counts
  a = counts_in b

  abbrev early : List Check
  early = convert_early from b marks work

  abbrev late : List Check
  late = turn_late to b (length out)

  passes : Pass (early ++ late)
  unfolding turn_answer
  passes = answered_pass (length (converted G b)) (early ++ late) total e

  behind : Pass late
  behind = pass_behind early late passes

  header : Pass (header_checks (only from) b)
  header = header_pass (only from) b marks work (pass_front early late passes)

  -- d is at most what the other form takes: it is 1 where that is of plain hierarchies
  labelled : a.d ≤ F.labellings → a.d ≤ G.labellings
  labelled most = at G.tree refl
    where
      at : (t : Bool) → G.tree ≡ t → a.d ≤ G.labellings
      at false t = omega (arith, S.few t)
      at true t =
          let one : a.d ≡ 1 = eqb-true a.d 1 (not-false (eqb a.d 1) (ap (λ (x : Bool). x && not (eqb a.d 1)) (sym t) ∙ behind.1.0)) in
          omega (arith, tree_single to t)

  fit : counts_fit G a ≡ true
  fit =
      let n = both (leb a.n F.vertices) _ (header_fit from b header) in
      let k = both (leb a.k a.n) _ n.1 in
      let c = both (leb a.c F.entries) _ k.1 in
      let d = both (leb 1 a.d) _ c.1 in
      and_both (le-leb a.n G.vertices (omega (arith, leb-true a.n F.vertices n.0, S.vertices)))
      (and_both k.0
      (and_both (le-leb a.c G.entries (omega (arith, leb-true a.c F.entries c.0, S.entries)))
      (and_both d.0 (le-leb a.d G.labellings (labelled (leb-true a.d F.labellings d.1))))))

  pub turnable : Turnable from to b
  turnable = record {
    header = header;
    contents = behind.0;
    fit = fit;
    plain = λ t. not-false (is_tree (index_in b).children) (ap (λ (x : Bool). x && not (is_tree (index_in b).children)) (sym t) ∙ behind.1.1.0);
  }

  -- the total is the length of what is written, and the output behind it is untouched
  total_is : total ≡ length (converted G b)
  unfolding turn_answer
  total_is = answered_is (length (converted G b)) (early ++ late) total e

  pub output_is : turn_output from to b marks work out ≡ converted G b ++ drop total out
  unfolding turn_output
  output_is =
      ap (λ (t : Bool). cond t out (converted G b ++ drop (length (converted G b)) out)) (stops_early (early ++ late) [] 9 passes)
      ∙ ap (λ (n : ℕ). converted G b ++ drop n out) (sym total_is)

  -- what was written
  abbrev pub turned : List ℕ
  turned = take total (turn_output from to b marks work out)

  pub turned_is : turned ≡ converted G b
  turned_is = ap (take total) output_is ∙ take_at (converted G b) (drop total out) total (sym total_is)

  -- it opens, with the same counts
  pub turned_open : (T : FormsTaken) (m w : ℕ)
      → takes T G.number ≡ true
      → (counts_in b).n ≤ m
      → words_for G.width (counts_in b) ≤ w
      → open_answer T turned m w ≡ answered (counts_in b)
  turned_open T m w taken room words = ap (λ (z : List ℕ). open_answer T z m w) turned_is ∙ turned_opens turnable T m w taken room words

  -- a question on the one, of a call that takes its form, is answered as on the other, of a call that takes that: answer, reason, groups opened, labelling and marks, and
  -- every refusal; both words suffice
  module _ (T T' : FormsTaken) (taken : takes T from ≡ true) (taken' : takes T' to ≡ true)
      (w w' : ℕ) (words : words_in b ≤ w) (words' : words_for G.width (counts_in b) ≤ w')
    where
      abbrev there : List ℕ
      there = converted G b

      -- a call that takes both forms
      abbrev B : FormsTaken
      B = forms_taken 0 (from + to)

      first : takes B from ≡ true
      first =
          and_both (and_both (le-leb 0 from (omega arith)) (le-leb from (from + to) (omega arith)))
          (both (leb T.least from && leb from T.most) (is_form from) taken).1

      second : takes B to ≡ true
      second = and_both (and_both (le-leb 0 to (omega arith)) (le-leb to (from + to) (omega arith))) S.known

      named : header_at there 0 ≡ to
      named = number_is to there (turnable_back turnable S.known).header

      own : takes T' (header_at there 0) ≡ takes B (header_at there 0)
      own = ap (takes T') named ∙ taken' ∙ sym (ap (takes B) named ∙ second)

      other : takes B (header_at b 0) ≡ takes T (header_at b 0)
      other = ap (takes B) (number_is from b header) ∙ first ∙ sym (ap (takes T) (number_is from b header) ∙ taken)

      same : SameIndex B b there w w'
      same = turned_alike turnable B w w' first (ap (takes B) (eqb-true G.number to S.known) ∙ second) words words'

      pub question_kept : (u v m : ℕ) → ask_answer T' turned u v m w' ≡ ask_answer T b u v m w
      question_kept u v m =
          ap (λ (z : List ℕ). ask_answer T' z u v m w') turned_is ∙ asked_as T' B there own u v m w' ∙ asked_same same u v m ∙ asked_as B T b other u v m w

      pub question_marks_kept : (u v : ℕ) (m : List ℕ) → ask_marks T' turned u v m w' ≡ ask_marks T b u v m w
      question_marks_kept u v m =
          ap (λ (z : List ℕ). ask_marks T' z u v m w') turned_is ∙ ask_marks_as T' B there own u v m w' ∙ ask_marks_same same u v m ∙ ask_marks_as B T b other u v m w

-- What can be turned is, where marks, words and output suffice.
module _ {from to : ℕ} {b : List ℕ} (C : Turnable from to b) where
  abbrev H : Form
  H = form_of to

  single : (t : Bool) → H.tree ≡ t → (H.tree && not (eqb (counts_in b).d 1)) ≡ false
  single false t = ap (λ (x : Bool). x && not (eqb (counts_in b).d 1)) t
  single true t =
      let a : Counts = counts_in b in
      let n = both (leb a.n H.vertices) _ C.fit in
      let k = both (leb a.k a.n) _ n.1 in
      let c = both (leb a.c H.entries) _ k.1 in
      let d = both (leb 1 a.d) _ c.1 in
      let one : a.d ≡ 1 = omega (arith, leb-true 1 a.d d.0, leb-true a.d H.labellings d.1, tree_single to t) in
      ap₂ (λ (x y : Bool). x && not y) t (eq-eqb a.d 1 one)

  plain_none : (t : Bool) → H.tree ≡ t → (H.tree && not (is_tree (index_in b).children)) ≡ false
  plain_none false t = ap (λ (x : Bool). x && not (is_tree (index_in b).children)) t
  plain_none true t = ap₂ (λ (x y : Bool). x && not y) t (C.plain t)

  turnable_turns : (marks work out : ℕ)
      → (counts_in b).n ≤ marks
      → words_in b ≤ work
      → length (converted H b) ≤ out
      → turn_answer from to b marks work out ≡ answered (length (converted H b))
  unfolding turn_answer
  turnable_turns marks work out room words fits =
      let early : List Check = convert_early from b marks work in
      let late : List Check = turn_late to b out in
      let needed : ℕ = length (converted H b) in
      stops_outcome needed (early ++ late) 9
      (pass_both early late (lent_pass (only from) b marks work C.header room words)
      (C.contents, (single H.tree refl, (plain_none H.tree refl, (le-ltb out needed fits, tt)))))

-- There and back: turned back, what was written gives the bytes that there were, where marks, words and output suffice.
module _ (from to : ℕ) (S : Alongside from to) (S' : Alongside to from) (b : List ℕ) (small : Bytes b) (marks work : ℕ) (out : List ℕ) {total : ℕ}
    (e : turn_answer from to b marks work (length out) ≡ answered total)
    (m w : ℕ) (back : List ℕ) (room : (counts_in b).n ≤ m) (words : words_for (form_of to).width (counts_in b) ≤ w) (fits : length b ≤ length back)
  where
    abbrev C : Turnable from to b
    C = turnable from to S b marks work out e

    abbrev forth : List ℕ
    forth = turned from to S b marks work out e

    forth_is : forth ≡ converted (form_of to) b
    forth_is = turned_is from to S b marks work out e

    again : converted (form_of from) (converted (form_of to) b) ≡ b
    again = turned_back C small

    pub back_answers : turn_answer to from forth m w (length back) ≡ answered (length b)
    back_answers =
        let n : (counts_in (converted (form_of to) b)).n ≡ (counts_in b).n = ap (λ (a : Counts). a.n) (counts_kept C) in
        let long : length (converted (form_of from) (converted (form_of to) b)) ≡ length b = ap length again in
        ap (λ (z : List ℕ). turn_answer to from z m w (length back)) forth_is
        ∙ turnable_turns (turnable_back C S.known) m w (length back) (omega arith) (subst⁻¹ (λ (x : ℕ). x ≤ w) (words_turned C) words) (omega arith)
        ∙ ap answered long

    pub back_written : turn_output to from forth m w back ≡ b ++ drop (length b) back
    back_written =
        output_is to from S' forth m w back back_answers
        ∙ ap (λ (z : List ℕ). z ++ drop (length b) back) (ap (converted (form_of from)) forth_is ∙ again)

-- back to form 2 neither 4 nor 22 is given
pub from_answer : (b : List ℕ) (marks work out : ℕ)
    → turn_answer 4 2 b marks work out
    ≡ (let needed : ℕ = length (converted form2 b) in
    outcome (convert_early 4 b marks work ++ (contents_check b ∷ check (ltb out needed) 9 needed ∷ [])) needed)
unfolding turn_answer
from_answer b marks work out =
    let needed : ℕ = length (converted form2 b) in
    let f : Fewer (convert_early 4 b marks work ++ turn_late 2 b out) (convert_early 4 b marks work ++ (contents_check b ∷ check (ltb out needed) 9 needed ∷ [])) =
    keep _ (keep _ (keep _ (keep _ (keep _ (keep _ (pass _ refl (pass _ refl (keep _ none)))))))) in
    fewer_outcome needed f

-- and what is written has m = s
pub from_alike : (b : List ℕ) (marks work : ℕ) (out : List ℕ) {total : ℕ} (e : turn_answer 4 2 b marks work (length out) ≡ answered total)
    → Alike (index_in (turned 4 2 to_2 b marks work out e))
from_alike b marks work out e =
    let C : Turnable 4 2 b = turnable 4 2 to_2 b marks work out e in
    subst⁻¹ (λ (z : List ℕ). Alike (index_in z)) (turned_is 4 2 to_2 b marks work out e)
    (subst⁻¹ Alike (index_kept C) (pairs_alike (form_of (header_at b 0)) b (ap (λ (G : Form). G.by_place) (form_is 4 b C.header))))

-- Two results that the contract allows are equal.
pub turned_once : {from to : ℕ} {b marks work out : List ℕ} {r r' : Result ℕ Refusal} {m m' w w' o o' : List ℕ}
    → Allowed from to b marks work out r m w o
    → Allowed from to b marks work out r' m' w' o'
    → (r ≡ r') × ((m ≡ m') × ((w ≡ w') × (o ≡ o')))
turned_once {r = r} {r'} A B =
    (outcome_once (λ (total : ℕ). total) (λ n n' e. e) r r' (A.answers ∙ sym B.answers), (A.leaves ∙ sym B.leaves, (A.clears ∙ sym B.clears, A.writes ∙ sym B.writes)))
