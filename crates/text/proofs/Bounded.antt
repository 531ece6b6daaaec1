-- What a good text says is within the program's bounds. A block has at most its most of lines, and as many numbers in each as its kind has; its lines take their bytes from
-- the front of the text, so a text of 32,768 bytes asks at most 5,461 questions.
use mathlib.Core.Bool.{Bool, true, false, and-eq-true_iff}
use mathlib.Core.List.{List, [], ◌∷◌}
use mathlib.Core.Path.{◌≡◌, refl, sym, ap, ◌∙◌, subst}
use Prim.Native.Nat.{ℕ, zero, suc, ◌+◌, ◌*◌, ◌≤◌}
use native.Mathlib.Nat.{zero-mul, add-mul, one-mul}
use native.Mathlib.Omega.{arith}
use lib.Dec.{eqb, leb}
use lib.ListN.{length, drop, length-append, length-drop}
use borrow.Author.Tests.{leb-true}
use Rattle.lineage.specs.Stored.{most_labellings}
use Rattle.text_lines.specs.Lines.{bytes, Line, lines_of, most_digits, line_is}
use Rattle.text_lines.specs.Reader.{Found, found, none, line_in}
use Rattle.text.specs.Text.{most_bytes, most_edges, most_vertices, Block, stop, go_on, block, Text, says, of_pairs, is_end, vertices, is_first, text_of, judged, reading}
use Rattle.text.specs.Blocks.{most_questions}
use Rattle.text.proofs.Whole.{reading_is}
use Rattle.text.proofs.Blocks.{Taken, taken, line_bytes, line_numbers, behind, block_more, block_stops}

-- the lines behind a block are those of bytes behind its own
record Behind (size : ℕ) (s : List ℕ) (B : Block) : Type 0 where
  left : List ℕ
  rest : B.rest ≡ lines_of left
  bytes : B.count * (2 * size + 2) + length left ≤ length s
  numbers : length B.numbers ≡ B.count * size

module _ (c size : ℕ) where
  none_passed : (s : List ℕ) → Behind size s (stop (lines_of s))
  none_passed s = record { left = s; rest = refl; bytes = omega (arith, zero-mul (2 * size + 2)); numbers = sym (zero-mul size) }

  one_passed : (s ns : List ℕ) (k : ℕ) (B : Block) → Taken (c ∷ []) size s ns k → Behind size (drop k s) B → Behind size s (behind 1 ns B)
  one_passed s ns k B t b = record {
    left = b.left;
    rest = b.rest;
    bytes =
        omega
        (arith, add-mul 1 B.count (2 * size + 2), one-mul (2 * size + 2), (line_bytes c size s ns k t).0, (line_bytes c size s ns k t).1, b.bytes, length-drop k s);
    numbers = omega (arith, length-append ns B.numbers, line_numbers (c ∷ []) size s ns k t, b.numbers, add-mul 1 B.count size, one-mul size);
  }

  block_behind : (most : ℕ) (s : List ℕ) → Behind size s (block (c ∷ []) size most (lines_of s))
  unfolding block
  block_behind zero s = none_passed s
  block_behind (suc most) s = go (line_in most_digits (c ∷ []) size s) refl (λ k. block_behind most (drop k s))
    where
      go : (f : Found) → line_in most_digits (c ∷ []) size s ≡ f → ((k : ℕ) → Behind size (drop k s) (block (c ∷ []) size most (lines_of (drop k s))))
          → Behind size s (block (c ∷ []) size (suc most) (lines_of s))
      go (found ns k) e rest =
          let t : Taken (c ∷ []) size s ns k = taken (c ∷ []) size s ns k e in
          subst (Behind size s) (sym (block_more (c ∷ []) size most s ns k t)) (one_passed s ns k (block (c ∷ []) size most (lines_of (drop k s))) t (rest k))
      go none e rest = subst (Behind size s) (sym (block_stops (c ∷ []) size (suc most) s e)) (none_passed s)

-- behind a block whose lines are those of some bytes
block_next : (c size most : ℕ) (s : List ℕ) (lines : List Line) → lines ≡ lines_of s → Behind size s (block (c ∷ []) size most lines)
block_next c size most s lines e = subst (λ (ls : List Line). Behind size s (block (c ∷ []) size most ls)) (sym e) (block_behind c size most s)

-- a block has at most its most of lines
block_few : (first : List ℕ) (size most : ℕ) (lines : List Line) → (block first size most lines).count ≤ most
unfolding block
block_few first size zero lines = omega arith
block_few first size (suc most) [] = omega arith
block_few first size (suc most) (l ∷ []) = omega arith
block_few first size (suc most) (l ∷ (l' ∷ more)) = go (line_is most_digits first size l) (block_few first size most (l' ∷ more))
  where
    go : (t : Bool) → (block first size most (l' ∷ more)).count ≤ most → (go_on t l (l' ∷ more) (λ lines. block first size most lines)).count ≤ suc most
    go true h = omega arith
    go false h = omega arith

-- as many firsts, or seconds, as there are pairs
pairs_long : (k count : ℕ) (ns : List ℕ) → length ns ≡ count * 2 → length (of_pairs k ns) ≡ count
pairs_long k count [] h = omega arith
pairs_long k count (x ∷ []) h = absurd (omega arith)
pairs_long k zero (x ∷ (y ∷ ns)) h = absurd (omega arith)
pairs_long k (suc count) (x ∷ (y ∷ ns)) h = ap suc (pairs_long k count ns (omega arith))

-- the bounds of what a text says
pub record Bounded (text : List ℕ) (t : Text) : Type 0 where
  pub n : t.n ≤ most_vertices
  pub paired : length t.sources ≡ length t.targets
  pub edges : length t.sources ≤ most_edges
  pub d : t.d ≤ most_labellings
  pub orders : length t.orders ≡ t.d * t.n
  pub asked : length text ≤ most_bytes → length t.asked ≤ 2 * most_questions

-- a text says something where its first line is good and nothing is left
judged_says : (x y : Bool) (said t : Text) (good : ℕ) → judged x y said good ≡ says t → (x ≡ true) × (said ≡ t)
judged_says true true said t good e = (refl, cc)
judged_says true false said t good e = let z : ◌≡◌ {A = ℕ} 0 1 = cc in absurd (omega arith)
judged_says false y said t good e = let z : ◌≡◌ {A = ℕ} 0 1 = cc in absurd (omega arith)

pub says_bounded : (text : List ℕ) (t : Text) → reading text ≡ says t → Bounded text t
says_bounded text t says-t =
    let v : Block = block (bytes "v") 1 1 (lines_of text) in
    let e : Block = block (bytes "e") 2 most_edges v.rest in
    let o : Block = block (bytes "o") (vertices v) most_labellings e.rest in
    let q : Block = block (bytes "q") 2 (length o.rest) o.rest in
    let v-behind : Behind 1 text v = block_behind 118 1 1 text in
    let e-behind : Behind 2 v-behind.left e = block_next 101 2 most_edges v-behind.left v.rest v-behind.rest in
    let o-behind : Behind (vertices v) e-behind.left o = block_next 111 (vertices v) most_labellings e-behind.left e.rest e-behind.rest in
    let q-behind : Behind 2 o-behind.left q = block_next 113 2 (length o.rest) o-behind.left o.rest o-behind.rest in
    let judging = judged_says (is_first v) (is_end q.rest) (text_of v e o q) t (v.count + e.count + o.count + q.count) (reading_is text v e o q refl refl refl refl ∙ says-t) in
    let sources : length (of_pairs 0 e.numbers) ≡ e.count = pairs_long 0 e.count e.numbers e-behind.numbers in
    subst (Bounded text) judging.1
    (record {
      n = leb-true (vertices v) most_vertices ((and-eq-true_iff (eqb v.count 1) (leb (vertices v) most_vertices)).0 judging.0).1;
      paired = sources ∙ sym (pairs_long 1 e.count e.numbers e-behind.numbers);
      edges = omega (arith, sources, block_few (bytes "e") 2 most_edges v.rest);
      d = block_few (bytes "o") (vertices v) most_labellings e.rest;
      orders = o-behind.numbers;
      asked = λ short. omega (arith, short, v-behind.bytes, e-behind.bytes, o-behind.bytes, q-behind.bytes, q-behind.numbers);
    })
