-- Reading lines of one letter, line by line: the lines passed, then what is still to be read behind them, are the whole block.
use mathlib.Core.Bool.{Bool, true, false, true≢false, false≢true, ◌&&◌, and-eq-true_iff}
use mathlib.Core.List.{List, [], ◌∷◌, ◌++◌, map, append_assoc, append-nil}
use mathlib.Core.Path.{◌≡◌, refl, sym, ap, ◌∙◌, subst}
use Prim.Native.Nat.{ℕ, zero, suc, ◌+◌, ◌-◌, ◌*◌, ◌≤◌, ◌<◌}
use native.Mathlib.Nat.{add-zero, zero-add, sub-zero, sub_self, zero-mul, one-mul, add-mul}
use native.Mathlib.Numerals.{one-add}
use native.Mathlib.Omega.{arith}
use lib.Dec.{eqb}
use lib.ListN.{length, take, drop, length-drop, length-map}
use lib.Seq.{drop-drop}
use borrow.Author.Tests.{eqb-true}
use Rattle.lineage.specs.Lists.{all_of, same_list}
use Rattle.std.proofs.Common.{Option, Some, None}
use Rattle.text_lines.specs.Lines.{space, lf, keep, first_piece, begin, other_pieces, pieces, Line, lines_of, is_decimal, most_digits, value, line_is, numbers_in}
use Rattle.text_lines.specs.Reader.{Found, found, none, after, found_if, is_more, words_in, line_in, Into}
use Rattle.text_lines.proofs.Words.{line_behind}
use Rattle.text.specs.Text.{Block, stop, block}
use Rattle.text.specs.Blocks.{BlockInto}

-- how many bytes pieces take with the separators in front of them
abbrev spread : List (List ℕ) → ℕ
spread [] = 0
spread (piece ∷ others) = suc (length piece) + spread others

pieces_long : (separator : ℕ) (s : List ℕ) → length (first_piece separator s) + spread (other_pieces separator s) ≡ length s
unfolding first_piece other_pieces
pieces_long separator [] = refl
pieces_long separator (b ∷ s) = go (eqb b separator) (pieces_long separator s)
  where
    go : (t : Bool) → length (first_piece separator s) + spread (other_pieces separator s) ≡ length s
        → length (keep t b (first_piece separator s)) + spread (begin t (first_piece separator s) (other_pieces separator s)) ≡ suc (length s)
    go true h = omega arith
    go false h = omega arith

-- a decimal has a digit
decimals_long : (words : List (List ℕ)) → all_of (is_decimal most_digits) words ≡ true → 2 * length words ≤ spread words
unfolding is_decimal
decimals_long [] e = omega arith
decimals_long ([] ∷ words) e = absurd (false≢true e)
decimals_long ((b ∷ word) ∷ words) e =
    omega (arith, decimals_long words ((and-eq-true_iff (is_decimal most_digits (b ∷ word)) (all_of (is_decimal most_digits) words)).0 e).1)

-- what a line that was found says of the bytes
pub record Taken (first : List ℕ) (size : ℕ) (s ns : List ℕ) (k : ℕ) : Type 0 where
  ended : is_more (other_pieces lf s) ≡ true
  right : line_is most_digits first size (words_in s) ≡ true
  numbers : ns ≡ numbers_in (words_in s)
  bytes : k ≡ suc (length (first_piece lf s))

pub taken : (first : List ℕ) (size : ℕ) (s ns : List ℕ) (k : ℕ) → line_in most_digits first size s ≡ found ns k → Taken first size s ns k
unfolding line_in
taken first size s ns k e = go (is_more (other_pieces lf s)) (line_is most_digits first size (words_in s)) refl refl e
  where
    go : (x y : Bool) → is_more (other_pieces lf s) ≡ x → line_is most_digits first size (words_in s) ≡ y
        → found_if (x && y) (words_in s) (suc (length (first_piece lf s))) ≡ found ns k → Taken first size s ns k
    go true true m l h = record { ended = m; right = l; numbers = cc; bytes = cc }
    go true false m l h = absurd (true≢false cc)
    go false y m l h = absurd (true≢false cc)

same_long : (xs ys : List ℕ) → same_list xs ys ≡ true → length xs ≡ length ys
same_long [] [] e = refl
same_long [] (y ∷ ys) e = absurd (false≢true e)
same_long (x ∷ xs) [] e = absurd (false≢true e)
same_long (x ∷ xs) (y ∷ ys) e = ap suc (same_long xs ys ((and-eq-true_iff (eqb x y) (same_list xs ys)).0 e).1)

more_long : (others : List (List ℕ)) → is_more others ≡ true → 1 ≤ spread others
more_long [] e = absurd (false≢true e)
more_long (piece ∷ others) e = omega arith

-- a line takes two bytes for each number and two more, and no more than there are
pub line_bytes : (c size : ℕ) (s ns : List ℕ) (k : ℕ) → Taken (c ∷ []) size s ns k → (2 * size + 2 ≤ k) × (k ≤ length s)
unfolding line_is
line_bytes c size s ns k t =
    let l : List ℕ = first_piece lf s in
    let words : Line = other_pieces space l in
    let both = (and-eq-true_iff (same_list (first_piece space l) (c ∷ [])) (eqb (length words) size && all_of (is_decimal most_digits) words)).0 t.right in
    let counted = (and-eq-true_iff (eqb (length words) size) (all_of (is_decimal most_digits) words)).0 both.1 in
    let letter : length (first_piece space l) ≡ 1 = same_long (first_piece space l) (c ∷ []) both.0 in
    let numbers : length words ≡ size = eqb-true (length words) size counted.0 in
    let words_long : 2 * length words ≤ spread words = decimals_long words counted.1 in
    let line-long : length (first_piece space l) + spread words ≡ length l = pieces_long space l in
    let text_long : length l + spread (other_pieces lf s) ≡ length s = pieces_long lf s in
    let more : 1 ≤ spread (other_pieces lf s) = more_long (other_pieces lf s) t.ended in
    let whole : k ≡ suc (length l) = t.bytes in
    (omega arith, omega arith)

-- as many numbers as it should have
pub line_numbers : (first : List ℕ) (size : ℕ) (s ns : List ℕ) (k : ℕ) → Taken first size s ns k → length ns ≡ size
unfolding line_is
line_numbers first size s ns k t =
    let words : Line = other_pieces space (first_piece lf s) in
    let both = (and-eq-true_iff (same_list (first_piece space (first_piece lf s)) first) (eqb (length words) size && all_of (is_decimal most_digits) words)).0 t.right in
    ap length t.numbers ∙ (length-map words value ∙ eqb-true (length words) size ((and-eq-true_iff (eqb (length words) size) (all_of (is_decimal most_digits) words)).0 both.1).0)

-- behind the line's LF stand the other lines
lines_behind : (s : List ℕ) → is_more (other_pieces lf s) ≡ true → lines_of (drop (suc (length (first_piece lf s))) s) ≡ map (pieces space) (other_pieces lf s)
unfolding lines_of
lines_behind s e = ap (map (pieces space)) (line_behind s e)

-- numbers and lines passed, then those of a block
abbrev pub behind : ℕ → List ℕ → Block → Block
behind count ns B = record { count = count + B.count; numbers = ns ++ B.numbers; rest = B.rest }

-- the first line is of the kind
pub block_more : (first : List ℕ) (size most : ℕ) (s ns : List ℕ) (k : ℕ) → Taken first size s ns k
    → block first size (suc most) (lines_of s) ≡ behind 1 ns (block first size most (lines_of (drop k s)))
unfolding lines_of block
block_more first size most s ns k t =
    rw (t.numbers, t.bytes, lines_behind s t.ended) (go (other_pieces lf s) t.ended)
  where
    go : (others : List (List ℕ)) → is_more others ≡ true
        → block first size (suc most) (words_in s ∷ map (pieces space) others) ≡ behind 1 (numbers_in (words_in s)) (block first size most (map (pieces space) others))
    go [] e = absurd (false≢true e)
    go (piece ∷ others) e = rw (t.right, one-add (block first size most (map (pieces space) (piece ∷ others))).count)

-- the first line is of another kind
pub block_stops : (first : List ℕ) (size most : ℕ) (s : List ℕ) → line_in most_digits first size s ≡ none → block first size most (lines_of s) ≡ stop (lines_of s)
unfolding lines_of block line_in
block_stops first size zero s e = refl
block_stops first size (suc most) s e = go (other_pieces lf s) (line_is most_digits first size (words_in s)) refl e
  where
    go : (others : List (List ℕ)) (y : Bool) → line_is most_digits first size (words_in s) ≡ y → found_if (is_more others && y) (words_in s) (suc (length (first_piece lf s))) ≡ none
        → block first size (suc most) (words_in s ∷ map (pieces space) others) ≡ stop (words_in s ∷ map (pieces space) others)
    go [] y l h = refl
    go (piece ∷ others) true l h = absurd (true≢false cc)
    go (piece ∷ others) false l h = rw l

behind_behind : (B : Block) (i j : ℕ) (ms ns : List ℕ) → behind i ms (behind j ns B) ≡ behind (i + j) (ms ++ ns) B
behind_behind B i j ms ns =
    let counts : i + (j + B.count) ≡ i + j + B.count = omega arith in
    rw (counts, append_assoc ms ns B.numbers)

-- i lines stand in the list, and p is the position behind them: these, then what is still to be read
unfoldable pub passed : List ℕ → List ℕ → List ℕ → ℕ → ℕ → ℕ → ℕ → Block
passed text into first size most i p = behind i (take (i * size) into) (block first size (most - i) (lines_of (drop p text)))

module _ (text into first : List ℕ) (size most i p : ℕ) where
  passed_begins : i ≡ 0 → passed text into first size most i p ≡ block first size most (lines_of (drop p text))
  unfolding passed
  passed_begins e = rw (e, zero-mul size, sub-zero most, zero-add (block first size most (lines_of (drop p text))).count)

  -- as many lines as may be
  passed_full : i ≡ most → ◌≡◌ {A = Block} (record { count = i; numbers = take (i * size) into; rest = lines_of (drop p text) }) (passed text into first size most i p)
  unfolding passed block
  passed_full e = rw (e, sub_self most, add-zero most, append-nil (take (most * size) into))

-- that line i + 1 was read, from p to next
record Read (text into into' first : List ℕ) (size i p next : ℕ) : Type 0 where
  ns : List ℕ
  k : ℕ
  line : line_in most_digits first size (drop p text) ≡ found ns k
  stored : take (i * size + size) into' ≡ take (i * size) into ++ ns
  ends : next ≡ p + k

module _ (text into into' first : List ℕ) (size i p : ℕ) where
  line_read : (next : ℕ) → Into (Some next) (line_in most_digits first size (drop p text)) p (i * size) size into into' → Read text into into' first size i p next
  line_read next t = go (line_in most_digits first size (drop p text)) refl t.read
    where
      go : (f : Found) → line_in most_digits first size (drop p text) ≡ f → found (take (i * size + size) into') next ≡ after (take (i * size) into) p f → Read text into into' first size i p next
      go (found ns k) e h = record { ns = ns; k = k; line = e; stored = cc; ends = cc }
      go none e h = absurd (true≢false cc)

  line_missed : Into None (line_in most_digits first size (drop p text)) p (i * size) size into into' → line_in most_digits first size (drop p text) ≡ none
  line_missed t = go (line_in most_digits first size (drop p text)) t.read
    where
      go : (f : Found) → none ≡ after (take (i * size) into) p f → f ≡ none
      go (found ns k) h = absurd (true≢false cc)
      go none h = refl

  module _ (most : ℕ) where
    -- a line more
    turns : (next k : ℕ) (ns : List ℕ) → i < most → line_in most_digits first size (drop p text) ≡ found ns k → take (i * size + size) into' ≡ take (i * size) into ++ ns → next ≡ p + k
        → passed text into' first size most (i + 1) next ≡ passed text into first size most i p
    unfolding passed
    turns next k ns low line stored ends =
        let one : (i + 1) * size ≡ i * size + size = add-mul i 1 size ∙ ap (λ (k : ℕ). i * size + k) (one-mul size) in
        let left : most - i ≡ suc (most - (i + 1)) = omega arith in
        let rest : Block = block first size (most - (i + 1)) (lines_of (drop (p + k) text)) in
        rw (one, stored, ends, left, block_more first size (most - (i + 1)) (drop p text) ns k (taken first size (drop p text) ns k line), drop-drop k p text)
        (sym (behind_behind rest i 1 (take (i * size) into) ns))

    pub passed_turns : (next : ℕ) → i < most → Into (Some next) (line_in most_digits first size (drop p text)) p (i * size) size into into'
        → passed text into' first size most (i + 1) next ≡ passed text into first size most i p
    passed_turns next low t =
        let r : Read text into into' first size i p next = line_read next t in
        turns next r.k r.ns low r.line r.stored r.ends

    -- no line more
    pub passed_stops : Into None (line_in most_digits first size (drop p text)) p (i * size) size into into'
        → ◌≡◌ {A = Block} (record { count = i; numbers = take (i * size) into'; rest = lines_of (drop p text) }) (passed text into first size most i p)
    unfolding passed
    passed_stops t = rw (t.kept, block_stops first size (most - i) (drop p text) (line_missed t), add-zero i, append-nil (take (i * size) into))

-- what a line that was read takes of the text
module _ (text into into' : List ℕ) (c size i p next : ℕ) (low : p ≤ length text) (t : Into (Some next) (line_in most_digits (c ∷ []) size (drop p text)) p (i * size) size into into') where
  line_spends : (p + (2 * size + 2) ≤ next) × (next ≤ length text)
  line_spends =
      let r : Read text into into' (c ∷ []) size i p next = line_read text into into' (c ∷ []) size i p next t in
      let b = line_bytes c size (drop p text) r.ns r.k (taken (c ∷ []) size (drop p text) r.ns r.k r.line) in
      (omega (arith, b.0, r.ends), omega (arith, b.1, r.ends, length-drop p text))

  pub block_inside : next ≤ length text
  block_inside = line_spends.1

  pub block_spent : (at : ℕ) → at + i * (2 * size + 2) ≤ p → at + (i + 1) * (2 * size + 2) ≤ next
  block_spent at h =
      let one : (i + 1) * (2 * size + 2) ≡ i * (2 * size + 2) + (2 * size + 2) = add-mul i 1 (2 * size + 2) ∙ ap (λ (k : ℕ). i * (2 * size + 2) + k) (one-mul (2 * size + 2)) in
      omega (arith, one, line_spends.0)

-- The loop's invariant: the lines passed lie within the text, each of its bytes, and with what is still to be read they are the block.
pub record Passing (text : List ℕ) (at letter size most : ℕ) (into : List ℕ) (i p : ℕ) : Type 0 where
  pub inside : p ≤ length text
  pub spent : at + i * (2 * size + 2) ≤ p
  pub whole : passed text into (letter ∷ []) size most i p ≡ block (letter ∷ []) size most (lines_of (drop at text))

module _ (text : List ℕ) (at letter size most : ℕ) (into : List ℕ) where
  pub passing_begins : at ≤ length text → Passing text at letter size most into 0 at
  passing_begins low = record {
    inside = low;
    spent = omega (arith, zero-mul (2 * size + 2));
    whole = passed_begins text into (letter ∷ []) size most 0 at refl;
  }

  pub passing_turns : (into' : List ℕ) (i p next : ℕ) → Passing text at letter size most into i p → i < most
      → Into (Some next) (line_in most_digits (letter ∷ []) size (drop p text)) p (i * size) size into into' → Passing text at letter size most into' (i + 1) next
  passing_turns into' i p next q low t = record {
    inside = block_inside text into into' letter size i p next q.inside t;
    spent = block_spent text into into' letter size i p next q.inside t at q.spent;
    whole = passed_turns text into into' (letter ∷ []) size i p most next low t ∙ q.whole;
  }

  -- as many lines as may be
  pub passing_full : (i p : ℕ) → i ≡ most → Passing text at letter size most into i p → BlockInto text at letter size most most p into
  passing_full i p full q =
      let b : BlockInto text at letter size most i p into = record {
        read = passed_full text into (letter ∷ []) size most i p full ∙ q.whole;
        few = omega arith;
        inside = q.inside;
        spent = q.spent;
      } in
      rw full at b
