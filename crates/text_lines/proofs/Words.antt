-- Reading a line, word by word: what is still to be read of a line, behind the words passed, says the same as the whole line.
use mathlib.Core.Bool.{Bool, true, false, true≢false, false≢true, ◌&&◌, ◌||◌, and-false}
use mathlib.Core.List.{List, [], ◌∷◌, ◌++◌, map, append_assoc, append-nil}
use mathlib.Core.Path.{◌≡◌, refl, sym, ap, ap₂, ◌∙◌}
use Prim.Native.Nat.{ℕ, suc, ◌+◌, ◌-◌, ◌<◌}
use native.Mathlib.Nat.{add-zero, sub-zero, sub_self}
use native.Mathlib.Omega.{arith}
use lib.Dec.{eqb, eqb-suc-suc, eqb-zero-suc, eqb-suc-zero}
use lib.ListN.{length, take, drop, set}
use lib.Seq.{drop-drop, take-suc-set, take-set-le}
use borrow.Author.Tests.{ne_eqb, eq-eqb}
use Rattle.lineage.specs.Lists.{all_of, same_list}
use Rattle.text_lines.specs.declared.Byte.{Byte}
use Rattle.text_lines.specs.declared.Byte.TheVariants.{Letter, Space, Lf}
use Rattle.text_lines.specs.declared.Number.{Number}
use Rattle.std.proofs.Common.{Some, None}
use Rattle.text_lines.specs.Lines.{space, lf, keep, first_piece, begin, other_pieces, pieces, value, is_decimal, Line, line_is, numbers_in}
use Rattle.text_lines.specs.Reader.{is_letter, is_break, word, is_ended, number_by, number_in, Found, found, none, after, found_if, is_more, words_in, line_in}
use Rattle.text_lines.proofs.Bytes.{letter_high, letter_goes, digit_goes, Sees, letter, digit, blank, newline, other, nothing}

neither : (x y : Bool) → (x || y) ≡ false → (x ≡ false) × (y ≡ false)
neither true y e = absurd (true≢false e)
neither false y e = (refl, e)

-- a byte that ends no word is no space and no LF
no_space : (b : ℕ) → is_break b ≡ false → eqb b space ≡ false
no_space b e = (neither (eqb b space) (eqb b lf) e).0

no_lf : (b : ℕ) → is_break b ≡ false → eqb b lf ≡ false
no_lf b e = (neither (eqb b space) (eqb b lf) e).1

-- a byte more in front of what was found
one_more : (t : Bool) (l l' : Line) (k : ℕ) → numbers_in l ≡ numbers_in l' → found_if t l (suc k) ≡ after [] 1 (found_if t l' k)
one_more true l l' k e = rw e (ap (found (numbers_in l')) (omega arith))
one_more false l l' k e = refl

-- what was found behind what was found before that
after_none : (f : Found) → after [] 0 f ≡ f
after_none (found ns k) = ap (found ns) (omega arith)
after_none none = refl

pub after_after : (f : Found) (ms ns : List ℕ) (i j : ℕ) → after ms i (after ns j f) ≡ after (ms ++ ns) (i + j) f
after_after (found os k) ms ns i j = ap₂ found (sym (append_assoc ms ns os)) (omega arith)
after_after none ms ns i j = refl

-- the word that stands first is the first of its line
pub word_first : (s : List ℕ) → first_piece space (first_piece lf s) ≡ word s
unfolding word first_piece
word_first [] = refl
word_first (b ∷ s) = go (eqb b lf) (eqb b space) refl refl (word_first s)
  where
    go : (x y : Bool) → eqb b lf ≡ x → eqb b space ≡ y → first_piece space (first_piece lf s) ≡ word s
        → first_piece space (keep x b (first_piece lf s)) ≡ keep (y || x) b (word s)
    go true true e f rest = refl
    go true false e f rest = refl
    go false true e f rest = rw f
    go false false e f rest = rw (f, rest)

same_self : (xs : List ℕ) → same_list xs xs ≡ true
same_self [] = refl
same_self (x ∷ xs) = rw (eq-eqb x x refl, same_self xs)

-- a number more in front of what was found
number_more : (t : Bool) (w : List ℕ) (ws : Line) (k : ℕ) → found_if t ([] ∷ (w ∷ ws)) (suc k) ≡ after (value w ∷ []) 1 (found_if t (w ∷ ws) k)
number_more true w ws k = ap (found (value w ∷ map value ws)) (omega arith)
number_more false w ws k = refl

-- nothing ends the word, so nothing ends the line
pub no_break : (s : List ℕ) → is_ended s ≡ false → other_pieces lf s ≡ []
unfolding is_ended other_pieces
no_break [] e = refl
no_break (b ∷ s) e =
    let both = neither (is_break b) (is_ended s) e in
    rw (no_lf b both.0) (no_break s both.1)

-- behind the line's LF stand the other lines
pub line_behind : (s : List ℕ) → is_more (other_pieces lf s) ≡ true → pieces lf (drop (suc (length (first_piece lf s))) s) ≡ other_pieces lf s
unfolding first_piece other_pieces
line_behind [] e = absurd (false≢true e)
line_behind (b ∷ s) e = go (eqb b lf) e (line_behind s)
  where
    go : (t : Bool) → is_more (begin t (first_piece lf s) (other_pieces lf s)) ≡ true
        → (is_more (other_pieces lf s) ≡ true → pieces lf (drop (suc (length (first_piece lf s))) s) ≡ other_pieces lf s)
        → pieces lf (drop (length (keep t b (first_piece lf s))) s) ≡ begin t (first_piece lf s) (other_pieces lf s)
    go true h rest = refl
    go false h rest = rest h

space_here : (text : List ℕ) (p : ℕ) → Sees Space (drop p text) → drop p text ≡ space ∷ drop (p + 1) text
space_here text p e = go e ∙ ap (λ (s : List ℕ). space ∷ s) (drop-drop 1 p text)
  where
    go : {s : List ℕ} → Sees Space s → s ≡ space ∷ drop 1 s
    go (blank more) = refl

-- a number is stored behind what stands in front
pub front_kept : (into : List ℕ) (base j v : ℕ) → take base (set into (base + j) v) ≡ take base into
front_kept into base j v = take-set-le base into (base + j) v (omega arith)

-- lines whose numbers have at most `most` digits
module _ (most : ℕ) where
  module _ (b : ℕ) (goes : is_break b ≡ false) (size : ℕ) (s : List ℕ) where
    -- no space stands where it should
    word_begins : line_in most [] size (b ∷ s) ≡ none
    unfolding line_in first_piece other_pieces line_is
    word_begins = rw (no_lf b goes, no_space b goes, and-false (is_more (other_pieces lf s)))

    -- the first word begins with this byte
    byte_same : (first : List ℕ) → line_in most (b ∷ first) size (b ∷ s) ≡ after [] 1 (line_in most first size s)
    unfolding line_in first_piece other_pieces line_is
    byte_same first =
        let l : List ℕ = first_piece lf s in
        rw (no_lf b goes, no_space b goes, eq-eqb b b refl)
        (one_more (is_more (other_pieces lf s) && line_is most first size (words_in s)) ((b ∷ first_piece space l) ∷ other_pieces space l) (words_in s) (suc (length l)) refl)

    -- the first word begins with another byte
    byte_other : (c : ℕ) (first : List ℕ) → eqb b c ≡ false → line_in most (c ∷ first) size (b ∷ s) ≡ none
    unfolding line_in first_piece other_pieces line_is
    byte_other c first e = rw (no_lf b goes, no_space b goes, e, and-false (is_more (other_pieces lf s)))

  -- the line begins with the word that stands first
  pub word_passed : (size : ℕ) (s : List ℕ) → line_in most (word s) size s ≡ after [] (length (word s)) (line_in most [] size (drop (length (word s)) s))
  unfolding word
  word_passed size [] = sym (after_none (line_in most [] size []))
  word_passed size (b ∷ s) = go (is_break b) refl (word_passed size s)
    where
      go : (t : Bool) → is_break b ≡ t → line_in most (word s) size s ≡ after [] (length (word s)) (line_in most [] size (drop (length (word s)) s))
          → line_in most (keep t b (word s)) size (b ∷ s) ≡ after [] (length (keep t b (word s))) (line_in most [] size (drop (length (keep t b (word s))) (b ∷ s)))
      go true e rest = sym (after_none (line_in most [] size (b ∷ s)))
      go false e rest =
          let behind : Found = line_in most [] size (drop (length (word s)) s) in
          byte_same b e size s (word s)
          ∙ (ap (after [] 1) rest ∙ (after_after behind [] [] 1 (length (word s)) ∙ ap (λ (k : ℕ). after [] k behind) (omega arith)))

  module _ (k : ℕ) (s : List ℕ) where
    -- behind the space stands a number
    space_number : is_decimal most (word s) ≡ true → line_in most [] (suc k) (space ∷ s) ≡ after (value (word s) ∷ []) 1 (line_in most (word s) k s)
    unfolding line_in first_piece other_pieces line_is
    space_number e =
        let ws : Line = other_pieces space (first_piece lf s) in
        rw (word_first s, same_self (word s), e, eqb-suc-suc (length ws) k)
        (number_more (is_more (other_pieces lf s) && (eqb (length ws) k && all_of (is_decimal most) ws)) (word s) ws (suc (length (first_piece lf s))))

    -- behind the space stands no number
    space_stray : is_decimal most (word s) ≡ false → line_in most [] (suc k) (space ∷ s) ≡ none
    unfolding line_in first_piece other_pieces line_is
    space_stray e =
        let ws : Line = other_pieces space (first_piece lf s) in
        rw (word_first s, e, and-false (eqb (suc (length ws)) (suc k)), and-false (is_more (other_pieces lf s)))

  space_last : (k : ℕ) (s : List ℕ) → is_ended s ≡ false → line_in most [] (suc k) (space ∷ s) ≡ none
  unfolding line_in first_piece other_pieces line_is
  space_last k s e = rw (no_break s e)

  -- no space stands where a number should begin
  no_number : (k : ℕ) {x : Byte} {s : List ℕ} → Sees x s → (x ≡ Space → ⊥) → line_in most [] (suc k) s ≡ none
  unfolding line_in first_piece other_pieces line_is
  no_number k (letter b more h) e = word_begins b (letter_goes b h) (suc k) more
  no_number k (digit d more h) e = word_begins (48 + d) (digit_goes d) (suc k) more
  no_number k (blank more) e = absurd (e refl)
  no_number k (newline more) e = rw (eqb-zero-suc k)
  no_number k (other b more n h f) e = word_begins b f (suc k) more
  no_number k nothing e = refl

  -- no LF stands where the line should end
  no_end : {x : Byte} {s : List ℕ} → Sees x s → (x ≡ Lf → ⊥) → line_in most [] 0 s ≡ none
  unfolding line_in first_piece other_pieces line_is
  no_end (letter b more h) e = word_begins b (letter_goes b h) 0 more
  no_end (digit d more h) e = word_begins (48 + d) (digit_goes d) 0 more
  no_end (blank more) e = rw (eqb-suc-zero (length (other_pieces space (first_piece lf more))), and-false (is_more (other_pieces lf more)))
  no_end (newline more) e = absurd (e refl)
  no_end (other b more n h f) e = word_begins b f 0 more
  no_end nothing e = refl

  -- an LF ends the line
  line_ends : {s : List ℕ} → Sees Lf s → line_in most [] 0 s ≡ found [] 1
  unfolding line_in first_piece other_pieces line_is
  line_ends (newline more) = refl

  -- what a number that was read says of its word
  pub record Read (s : List ℕ) (at v next : ℕ) : Type 0 where
    pub decimal : is_decimal most (word s) ≡ true
    pub made : v ≡ value (word s)
    pub ends : next ≡ at + length (word s)

  pub number_read : (s : List ℕ) (at : ℕ) (r : Number) → Some r ≡ number_in most at s → Read s at r.value r.next
  unfolding number_in
  number_read s at r e = go (is_ended s) (is_decimal most (word s)) refl e
    where
      go : (x y : Bool) → is_decimal most (word s) ≡ y → Some r ≡ number_by (x && y) (value (word s)) (at + length (word s)) → Read s at r.value r.next
      go true true d h = let same : r ≡ record { value = value (word s); next = at + length (word s) } = cc in rw same record { decimal = d; made = refl; ends = refl }
      go true false d h = absurd (true≢false cc)
      go false y d h = absurd (true≢false cc)

  module _ (text : List ℕ) (p k : ℕ) (spaced : Sees Space (drop p text)) where
    -- a number behind a single space
    number_passed : (ns : List ℕ) (r : Number) → Some r ≡ number_in most (p + 1) (drop (p + 1) text)
        → after (ns ++ (r.value ∷ [])) r.next (line_in most [] k (drop r.next text)) ≡ after ns p (line_in most [] (suc k) (drop p text))
    number_passed ns r e =
        let s : List ℕ = drop (p + 1) text in
        let n : ℕ = length (word s) in
        let known : Read s (p + 1) r.value r.next = number_read s (p + 1) r e in
        let rest : Found = line_in most [] k (drop (p + 1 + n) text) in
        rw (known.made, known.ends, space_here text p spaced, space_number k s known.decimal, word_passed k s, drop-drop n (p + 1) text)
        (rw (after_after rest (value (word s) ∷ []) [] 1 n, after_after rest ns (value (word s) ∷ []) p (1 + n))
        (ap (λ (q : ℕ). after (ns ++ (value (word s) ∷ [])) q rest) (omega arith)))

    -- no number behind a single space
    number_missing : None ≡ number_in most (p + 1) (drop (p + 1) text) → line_in most [] (suc k) (drop p text) ≡ none
    unfolding number_in
    number_missing e = rw (space_here text p spaced) (go (is_ended r) (is_decimal most (word r)) refl refl e)
      where
        r : List ℕ
        r = drop (p + 1) text

        go : (x y : Bool) → is_ended r ≡ x → is_decimal most (word r) ≡ y → None ≡ number_by (x && y) (value (word r)) (p + 1 + length (word r))
            → line_in most [] (suc k) (space ∷ r) ≡ none
        go true true f d h = absurd (true≢false cc)
        go true false f d h = space_stray k r d
        go false y f d h = space_last k r f

  -- j numbers of a line stand in the list from `base` on, and p is the position behind them: these, then what is still to be read
  unfoldable pub still : List ℕ → List ℕ → ℕ → ℕ → ℕ → ℕ → Found
  still text into base size j p = after (take (base + j) into) p (line_in most [] (size - j) (drop p text))

  module _ (text into : List ℕ) (base size : ℕ) where
    pub still_begins : (at : ℕ) → still text into base size 0 at ≡ after (take base into) at (line_in most [] size (drop at text))
    unfolding still
    still_begins at = rw (add-zero base, sub-zero size)

    module _ (j p : ℕ) where
      -- with j below the size one number more is to come
      one_left : j < size → size - j ≡ suc (size - (j + 1))
      one_left low = omega arith

      -- a number more in the list
      pub still_turns : (r : Number) → j < size → base + j < length into → Sees Space (drop p text) → Some r ≡ number_in most (p + 1) (drop (p + 1) text)
          → still text (set into (base + j) r.value) base size (j + 1) r.next ≡ still text into base size j p
      unfolding still
      still_turns r low room spaced e =
          let one : base + (j + 1) ≡ suc (base + j) = omega arith in
          rw (one, take-suc-set into (base + j) r.value room, one_left low) (number_passed text p (size - (j + 1)) spaced (take (base + j) into) r e)

      -- no space; no number behind it
      pub still_unspaced : {x : Byte} → j < size → Sees x (drop p text) → (x ≡ Space → ⊥) → none ≡ still text into base size j p
      unfolding still
      still_unspaced low e h = rw (one_left low, no_number (size - (j + 1)) e h)

      pub still_missing : j < size → Sees Space (drop p text) → None ≡ number_in most (p + 1) (drop (p + 1) text) → none ≡ still text into base size j p
      unfolding still
      still_missing low spaced e = rw (one_left low, number_missing text p (size - (j + 1)) spaced e)

      -- all numbers stand there: an LF ends the line, or does not
      pub still_ends : j ≡ size → Sees Lf (drop p text) → found (take (base + size) into) (p + 1) ≡ still text into base size j p
      unfolding still
      still_ends full e = rw (full, sub_self size, line_ends e, append-nil (take (base + size) into))

      pub still_unended : {x : Byte} → j ≡ size → Sees x (drop p text) → (x ≡ Lf → ⊥) → none ≡ still text into base size j p
      unfolding still
      still_unended full e h = rw (full, sub_self size, no_end e h)

  module _ (size c : ℕ) where
    same_letter : {b : ℕ} {s : List ℕ} → Sees (Letter b) s → b ≡ c → line_in most (c ∷ []) size s ≡ after [] 1 (line_in most [] size (drop 1 s))
    same_letter (letter b more h) e = rw (← e) (byte_same b (letter_goes b h) size more [])

    -- another letter stands first
    pub other_letter : {b : ℕ} {s : List ℕ} → Sees (Letter b) s → (b ≡ c → ⊥) → line_in most (c ∷ []) size s ≡ none
    other_letter (letter b more h) e = byte_other b (letter_goes b h) size more c [] (ne_eqb b c e)

    -- no letter stands first
    pub no_letter : {x : Byte} {s : List ℕ} → is_letter c ≡ true → Sees x s → ((b : ℕ) → x ≡ Letter b → ⊥) → line_in most (c ∷ []) size s ≡ none
    unfolding line_in first_piece other_pieces line_is
    no_letter l (letter b more h) e = absurd (e b refl)
    no_letter l (digit d more h) e = byte_other (48 + d) (digit_goes d) size more c [] (ne_eqb (48 + d) c (omega (arith, letter_high c l)))
    no_letter l (blank more) e = rw (and-false (is_more (other_pieces lf more)))
    no_letter l (newline more) e = refl
    no_letter l (other b more n h f) e = byte_other b f size more c [] (ne_eqb b c (λ q. true≢false (sym l ∙ (ap is_letter (sym q) ∙ n))))
    no_letter l nothing e = refl

  -- behind the letter stand the numbers
  pub letter_passed : (text ns : List ℕ) (at size c : ℕ) {b : ℕ} → Sees (Letter b) (drop at text) → b ≡ c
      → after ns (at + 1) (line_in most [] size (drop (at + 1) text)) ≡ after ns at (line_in most (c ∷ []) size (drop at text))
  letter_passed text ns at size c e same =
      let rest : Found = line_in most [] size (drop (at + 1) text) in
      rw (same_letter size c e same, drop-drop 1 at text, after_after rest ns [] at 1, append-nil ns)
