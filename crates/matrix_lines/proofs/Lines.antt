-- The laws of the code on lines: the header, the end of a line, comments passed one by one, a row by its first number and the others.
use mathlib.Core.Bool.{Bool, cond, not, true, false, true≢false, false≢true, ◌&&◌, and-false}
use mathlib.Core.List.{List, [], ◌∷◌, ◌++◌, map}
use mathlib.Core.Path.{◌≡◌, refl, sym, ap, ◌∙◌}
use Prim.Native.Nat.{ℕ, zero, suc, ◌+◌, ◌-◌, ◌≤◌, ◌<◌}
use native.Mathlib.Omega.{arith}
use native.Mathlib.Decide.{dec_lt}
use lib.Dec.{eqb, ltb, eqb-suc-suc}
use lib.ListN.{length, take, drop, set, length-drop}
use lib.Seq.{drop-drop}
use borrow.Author.Tests.{ne_eqb, lt-ltb, le-ltb}
use Rattle.lineage.specs.Lists.{same_list, all_of}
use Rattle.laws.proofs.Tests.{clash}
use Rattle.laws.proofs.Lists.{same_self}
use Rattle.text_lines.specs.declared.Number.{Number}
use Rattle.std.proofs.Common.{Option, Some, None}
use Rattle.std.specs.List.{starts_with, position_or_len}
use Rattle.std.proofs.lemmas.List.Recursion.{is_position_or_len}
use Rattle.std.proofs.lemmas.List.Sums.{prefix_len-le-length}
use Rattle.std.specs.Cmp.{nat_eq_equiv}
use Rattle.text_lines.specs.Lines.{lf, space, keep, first_piece, begin, other_pieces, pieces, is_decimal, value, Line, line_is}
use Rattle.text_lines.specs.Reader.{Found, found, none, after, is_more, word, is_ended, number_by, number_in, found_if, found_by, line_in}
use Rattle.text_lines.proofs.Words.{word_first, word_passed, no_break, after_after, Read, number_read}
use Rattle.matrix_lines.specs.Matrix.{header, is_comment, most_digits, is_row, Run, stop, with_line}
use Rattle.matrix_lines.specs.Reader.{header_in, all_run, RunInto, found_row, row_in}
use Rattle.matrix_lines.proofs.Pieces.{Lacks, lacks_first, lacks_more}
use Rattle.matrix_lines.proofs.Runs.{run_on, run_stops}

-- a word and the LF behind it stand first exactly where the first line is that word
swap : (a b c : Bool) → (a && (b && c)) ≡ (b && (a && c))
swap true b c = refl
swap false b c = sym (and-false b)

line_starts : (w : List ℕ) → Lacks lf w → (s : List ℕ) → starts_with eqb s (w ++ (lf ∷ [])) ≡ (is_more (other_pieces lf s) && same_list (first_piece lf s) w)
unfolding first_piece other_pieces
line_starts [] h [] = refl
line_starts [] h (b ∷ s) = rw (nat_eq_equiv.symm lf b) (go (eqb b lf))
  where
    go : (t : Bool) → (t && true) ≡ (is_more (begin t (first_piece lf s) (other_pieces lf s)) && same_list (keep t b (first_piece lf s)) [])
    go true = refl
    go false = sym (and-false (is_more (other_pieces lf s)))
line_starts (c ∷ w) h [] = refl
line_starts (c ∷ w) h (b ∷ s) = rw (nat_eq_equiv.symm c b) (go (eqb b lf) refl (line_starts w (lacks_more lf c w h) s))
  where
    go : (t : Bool) → eqb b lf ≡ t → starts_with eqb s (w ++ (lf ∷ [])) ≡ (is_more (other_pieces lf s) && same_list (first_piece lf s) w)
        → (eqb b c && starts_with eqb s (w ++ (lf ∷ []))) ≡ (is_more (begin t (first_piece lf s) (other_pieces lf s)) && same_list (keep t b (first_piece lf s)) (c ∷ w))
    go true e rest = rw (ne_eqb b c (λ q. clash (ap (λ (x : ℕ). eqb x lf) (sym q) ∙ e) (lacks_first lf c w h)))
    go false e rest = rw rest (swap (eqb b c) (is_more (other_pieces lf s)) (same_list (first_piece lf s) w))

pub header_starts : (s : List ℕ) → starts_with eqb s (header ++ (lf ∷ [])) ≡ header_in s
header_starts s = line_starts header refl s

-- the first line is as long as the bytes in front of the first LF, or as all bytes where none stands
line_long : (s : List ℕ) → length (first_piece lf s) ≡ position_or_len (λ b. eqb b lf) s
unfolding first_piece
line_long = is_position_or_len (λ s. length (first_piece lf s)) (λ b. eqb b lf) refl (λ b s. step b s (eqb b lf))
  where
    step : (b : ℕ) (s : List ℕ) (t : Bool) → length (keep t b (first_piece lf s)) ≡ cond t 0 (1 + length (first_piece lf s))
    step b s true = refl
    step b s false = omega arith

-- Where the line ends that begins at `at`, by what a search for an LF from there finds.
module _ (text : List ℕ) (at : ℕ) where
  abbrev place : ℕ
  place = position_or_len (λ b. eqb b lf) (drop at text)

  abbrev pub found_lf : Option ℕ
  found_lf = cond (ltb place (length (drop at text))) (Some place) None

  pub line_ended : at ≤ length text → {size : ℕ} → found_lf ≡ Some size → (at + size ≡ at + length (first_piece lf (drop at text))) × (at + size ≤ length text)
  line_ended inside {size} e = elim (dec_lt place (length (drop at text))) [
    | yes h ↦
        let same : place ≡ size = cc (rw (lt-ltb place (length (drop at text)) h) at e) in
        (omega (arith, same, line_long (drop at text)), omega (arith, same, h, length-drop at text))
    | no h ↦ absurd (cc (rw (le-ltb place (length (drop at text)) (omega arith)) at e))
  ]

  pub line_unended : at ≤ length text → found_lf ≡ None → (length text ≡ at + length (first_piece lf (drop at text))) × (length text ≤ length text)
  line_unended inside e = elim (dec_lt place (length (drop at text))) [
    | yes h ↦ absurd (cc (rw (lt-ltb place (length (drop at text)) h) at e))
    | no h ↦ (omega (arith, line_long (drop at text), length-drop at text, prefix_len-le-length (λ b. not (eqb b lf)) (drop at text)), omega arith)
  ]

-- an LF ends the line exactly where it is shorter than the bytes
ended_is : (s : List ℕ) → length (first_piece lf s) < length s → is_more (other_pieces lf s) ≡ true
unfolding first_piece other_pieces
ended_is [] h = absurd (omega arith)
ended_is (b ∷ s) h = go (eqb b lf) h (ended_is s)
  where
    go : (t : Bool) → length (keep t b (first_piece lf s)) < suc (length s) → (length (first_piece lf s) < length s → is_more (other_pieces lf s) ≡ true)
        → is_more (begin t (first_piece lf s) (other_pieces lf s)) ≡ true
    go true l rest = refl
    go false l rest = rest (omega arith)

unended_is : (s : List ℕ) → length s ≤ length (first_piece lf s) → is_more (other_pieces lf s) ≡ false
unfolding first_piece other_pieces
unended_is [] h = refl
unended_is (b ∷ s) h = go (eqb b lf) h (unended_is s)
  where
    go : (t : Bool) → suc (length s) ≤ length (keep t b (first_piece lf s)) → (length s ≤ length (first_piece lf s) → is_more (other_pieces lf s) ≡ false)
        → is_more (begin t (first_piece lf s) (other_pieces lf s)) ≡ false
    go true l rest = absurd (omega arith)
    go false l rest = rest (omega arith)

-- so a line that LF ends is shorter than the bytes
pub ended_long : (s : List ℕ) → is_more (other_pieces lf s) ≡ true → length (first_piece lf s) < length s
unfolding first_piece other_pieces
ended_long [] e = absurd (false≢true e)
ended_long (b ∷ s) e = go (eqb b lf) e (ended_long s)
  where
    go : (t : Bool) → is_more (begin t (first_piece lf s) (other_pieces lf s)) ≡ true → (is_more (other_pieces lf s) ≡ true → length (first_piece lf s) < length s)
        → length (keep t b (first_piece lf s)) < suc (length s)
    go true m rest = omega arith
    go false m rest = omega (arith, rest m)

-- Comments passed one by one: i of them from `at` on, up to p.
pub record Skipping (text : List ℕ) (at i p : ℕ) : Type 0 where
  pub counted : length (all_run is_comment (drop at text)).taken ≡ i + length (all_run is_comment (drop p text)).taken
  pub rest : (all_run is_comment (drop at text)).rest ≡ (all_run is_comment (drop p text)).rest
  pub inside : p ≤ length text
  pub spent : at + i ≤ p

module _ (text : List ℕ) (at i p : ℕ) (k : Skipping text at i p) where
  -- no comment more
  ends_by : (is_more (other_pieces lf (drop p text)) && is_comment (first_piece lf (drop p text))) ≡ false → RunInto text at (all_run is_comment (drop at text)) i p
  ends_by e =
      let none : all_run is_comment (drop p text) ≡ stop (pieces lf (drop p text)) = run_stops is_comment (drop p text) (length (pieces lf (drop p text))) e in
      let nothing : length (all_run is_comment (drop p text)).taken ≡ 0 = ap (λ (R : Run). length R.taken) none in
      record { counted = omega (arith, k.counted, nothing); rest = k.rest ∙ ap (λ (R : Run). R.rest) none; inside = k.inside; spent = k.spent }

  pub skip_other : is_comment (first_piece lf (drop p text)) ≡ false → RunInto text at (all_run is_comment (drop at text)) i p
  skip_other e = ends_by (rw e (and-false (is_more (other_pieces lf (drop p text)))))

  pub skip_unended : (end : ℕ) → end ≡ p + length (first_piece lf (drop p text)) → length text ≤ end → RunInto text at (all_run is_comment (drop at text)) i p
  skip_unended end e h = ends_by (rw (unended_is (drop p text) (omega (arith, length-drop p text, k.inside))))

  -- a comment more
  pub skip_turns : (end : ℕ) → is_comment (first_piece lf (drop p text)) ≡ true → end ≡ p + length (first_piece lf (drop p text)) → end < length text → Skipping text at (i + 1) (end + 1)
  skip_turns end passes e low =
      let s : List ℕ = drop p text in
      let there : p + suc (length (first_piece lf s)) ≡ end + 1 = omega arith in
      let next : drop (suc (length (first_piece lf s))) s ≡ drop (end + 1) text =
      drop-drop (suc (length (first_piece lf s))) p text ∙ ap (λ (q : ℕ). drop q text) there in
      let more : is_more (other_pieces lf s) ≡ true = ended_is s (omega (arith, length-drop p text)) in
      let one : all_run is_comment s ≡ with_line (first_piece lf s) (all_run is_comment (drop (end + 1) text)) =
      run_on is_comment s more passes ∙ ap (λ (r : List ℕ). with_line (first_piece lf s) (all_run is_comment r)) next in
      let taken : length (all_run is_comment s).taken ≡ suc (length (all_run is_comment (drop (end + 1) text)).taken) = ap (λ (R : Run). length R.taken) one in
      record { counted = omega (arith, k.counted, taken); rest = k.rest ∙ ap (λ (R : Run). R.rest) one; inside = omega arith; spent = omega (arith, k.spent) }

-- A row is its first number and, behind it, the others.
module _ (k : ℕ) (s : List ℕ) where
  same_found : (t : Bool) (w : List ℕ) (ws : Line) (n : ℕ) → found_row t (value w ∷ map value ws) n ≡ after (value w ∷ []) 0 (found_if t (w ∷ ws) n)
  same_found true w ws n = ap (found (value w ∷ map value ws)) (omega arith)
  same_found false w ws n = refl

  row_word : is_decimal most_digits (word s) ≡ true → row_in (suc k) s ≡ after (value (word s) ∷ []) 0 (line_in most_digits (word s) k s)
  unfolding row_in line_in line_is first_piece other_pieces is_row
  row_word e =
      let ws : Line = other_pieces space (first_piece lf s) in
      rw (word_first s, same_self (word s), e, eqb-suc-suc (length ws) k)
      (same_found (is_more (other_pieces lf s) && (eqb (length ws) k && all_of (is_decimal most_digits) ws)) (word s) ws (suc (length (first_piece lf s))))

  row_stray : is_decimal most_digits (word s) ≡ false → row_in (suc k) s ≡ none
  unfolding row_in first_piece other_pieces is_row
  row_stray e =
      let ws : Line = other_pieces space (first_piece lf s) in
      rw (word_first s, e, and-false (eqb (suc (length ws)) (suc k)), and-false (is_more (other_pieces lf s)))

  row_unended : is_ended s ≡ false → row_in (suc k) s ≡ none
  unfolding row_in first_piece other_pieces is_row
  row_unended e = rw (no_break s e)

  pub row_missing : (at : ℕ) → None ≡ number_in most_digits at s → row_in (suc k) s ≡ none
  unfolding number_in
  row_missing at e = go (is_ended s) (is_decimal most_digits (word s)) refl refl e
    where
      go : (x y : Bool) → is_ended s ≡ x → is_decimal most_digits (word s) ≡ y → None ≡ number_by (x && y) (value (word s)) (at + length (word s)) → row_in (suc k) s ≡ none
      go true true f d h = absurd (true≢false cc)
      go true false f d h = row_stray d
      go false y f d h = row_unended f

pub row_passed : (text : List ℕ) (at k : ℕ) (r : Number) → Some r ≡ number_in most_digits at (drop at text)
    → after (r.value ∷ []) r.next (line_in most_digits [] k (drop r.next text)) ≡ after [] at (row_in (suc k) (drop at text))
row_passed text at k r e =
    let s : List ℕ = drop at text in
    let n : ℕ = length (word s) in
    let known : Read most_digits s at r.value r.next = number_read most_digits s at r e in
    let rest : Found = line_in most_digits [] k (drop (at + n) text) in
    rw (known.made, known.ends, row_word k s known.decimal, word_passed most_digits k s, drop-drop n at text)
    (sym (rw (after_after rest (value (word s) ∷ []) [] 0 n, after_after rest [] (value (word s) ∷ []) at (0 + n)) (ap (λ (q : ℕ). after (value (word s) ∷ []) q rest) (omega arith))))

-- the same of a row of `size` numbers, from 1 on: its first number is stored, the others follow it
pub row_missed : (size at : ℕ) (s : List ℕ) → 1 ≤ size → None ≡ number_in most_digits at s → none ≡ after [] at (row_in size s)
row_missed zero at s low e = absurd (omega arith)
row_missed (suc k) at s low e = rw (row_missing k s at e)

stored_first : (into : List ℕ) (v : ℕ) → 1 ≤ length into → take 1 (set into 0 v) ≡ v ∷ []
stored_first [] v h = absurd (omega arith)
stored_first (x ∷ into) v h = refl

pub row_read : (r : Option ℕ) (text into exit : List ℕ) (at size : ℕ) (n : Number) → 1 ≤ size → 1 ≤ length into → Some n ≡ number_in most_digits at (drop at text)
    → found_by r (take (1 + (size - 1)) exit) ≡ after (take 1 (set into 0 n.value)) n.next (line_in most_digits [] (size - 1) (drop n.next text))
    → found_by r (take (0 + size) exit) ≡ after [] at (row_in size (drop at text))
row_read r text into exit at size n low room e h =
    let whole : 0 + size ≡ 1 + (size - 1) = omega arith in
    let full : suc (size - 1) ≡ size = omega arith in
    ap (λ (z : ℕ). found_by r (take z exit)) whole
    ∙ (h
    ∙ (ap (λ (ns : List ℕ). after ns n.next (line_in most_digits [] (size - 1) (drop n.next text))) (stored_first into n.value room)
    ∙ (row_passed text at (size - 1) n e ∙ ap (λ (z : ℕ). after [] at (row_in z (drop at text))) full)))
