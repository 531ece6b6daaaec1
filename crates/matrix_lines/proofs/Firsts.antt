-- The first byte of a line says what the line is: a comment begins with `%` and nothing else does, and a row of numbers begins with a digit.
use mathlib.Core.Bool.{Bool, true, false, and-false}
use mathlib.Core.List.{List, [], ◌∷◌}
use mathlib.Core.Path.{◌≡◌, refl, sym, ap, ap₂, ◌∙◌}
use Prim.Native.Nat.{ℕ, suc, ◌≤◌, ◌<◌}
use native.Mathlib.Omega.{arith}
use lib.Dec.{eqb}
use lib.ListN.{length, get_or, drop, drop_of_length-le}
use lib.Seq.{drop-cons}
use borrow.Author.Tests.{eqb-true, eq-eqb, ne_eqb, le-leb}
use Rattle.text_lines.specs.Lines.{lf, space, is_digit, keep, first_piece, other_pieces, is_decimal}
use Rattle.text_lines.specs.Reader.{is_break, word}
use Rattle.text_lines.proofs.Bytes.{below_digits, above_digits}
use Rattle.text_lines.proofs.Words.{word_first}
use Rattle.matrix_lines.specs.declared.LineKind.TheVariants.{Comment, Row, Neither}
use Rattle.matrix_lines.specs.Matrix.{is_comment, is_row, most_digits}
use Rattle.matrix_lines.specs.Reader.{kind_by, kind_in}

-- past the end
pub end_here : (text : List ℕ) (at : ℕ) → length text ≤ at → Neither ≡ kind_in (drop at text)
unfolding kind_in
end_here text at h = rw (drop_of_length-le text h)

-- the byte at a position is the first from there on
module _ (text : List ℕ) (at : ℕ) (inside : at < length text) where
  byte_here : kind_by (eqb (get_or text at 0) 37) (is_digit (get_or text at 0)) ≡ kind_in (drop at text)
  unfolding kind_in
  byte_here = rw (drop-cons text at 0 inside)

  pub comment_kind : get_or text at 0 ≡ 37 → Comment ≡ kind_in (drop at text)
  comment_kind e = ap (λ (x : Bool). kind_by x (is_digit (get_or text at 0))) (sym (eq-eqb (get_or text at 0) 37 e)) ∙ byte_here

  kind_by_lem : (x : Bool) → (get_or text at 0 ≡ 37 → ⊥) → is_digit (get_or text at 0) ≡ x → kind_by false x ≡ kind_in (drop at text)
  kind_by_lem x e d = ap₂ kind_by (sym (ne_eqb (get_or text at 0) 37 e)) (sym d) ∙ byte_here

  pub row_kind : 48 ≤ get_or text at 0 → get_or text at 0 < 58 → Row ≡ kind_in (drop at text)
  row_kind low high = kind_by_lem true (λ e. omega arith) (rw (le-leb 48 (get_or text at 0) low, le-leb (get_or text at 0) 57 (omega arith)))

  pub low_kind : (get_or text at 0 ≡ 37 → ⊥) → get_or text at 0 < 48 → Neither ≡ kind_in (drop at text)
  low_kind e h = kind_by_lem false e (below_digits (get_or text at 0) h)

  pub high_kind : 58 ≤ get_or text at 0 → Neither ≡ kind_in (drop at text)
  high_kind h = kind_by_lem false (λ e. omega arith) (above_digits (get_or text at 0) h)

-- a comment, by its first byte
comment_first : (b : ℕ) (s : List ℕ) → is_comment (first_piece lf (b ∷ s)) ≡ eqb b 37
unfolding first_piece
comment_first b s = go (eqb b lf) refl
  where
    go : (t : Bool) → eqb b lf ≡ t → is_comment (keep t b (first_piece lf s)) ≡ eqb b 37
    go true e = sym (ne_eqb b 37 (omega (arith, eqb-true b lf e)))
    go false e = refl

pub comment_is : (s : List ℕ) → kind_in s ≡ Comment → is_comment (first_piece lf s) ≡ true
unfolding kind_in first_piece
comment_is [] h = cc
comment_is (b ∷ s) h = comment_first b s ∙ go (eqb b 37) (is_digit b) h
  where
    go : (x y : Bool) → kind_by x y ≡ Comment → x ≡ true
    go true y h = refl
    go false true h = cc
    go false false h = cc

pub comment_not : (s : List ℕ) → (kind_in s ≡ Comment → ⊥) → is_comment (first_piece lf s) ≡ false
unfolding kind_in first_piece
comment_not [] h = refl
comment_not (b ∷ s) h = comment_first b s ∙ go (eqb b 37) (is_digit b) h
  where
    go : (x y : Bool) → (kind_by x y ≡ Comment → ⊥) → x ≡ false
    go true y h = absurd (h refl)
    go false y h = refl

-- no decimal begins with another byte than a digit
stray : (b : ℕ) (s : List ℕ) → is_digit b ≡ false → is_decimal most_digits (word (b ∷ s)) ≡ false
unfolding word is_decimal
stray b s d = go (is_break b)
  where
    go : (t : Bool) → is_decimal most_digits (keep t b (word s)) ≡ false
    go true = refl
    go false = rw d

word_stray : (s : List ℕ) → (kind_in s ≡ Row → ⊥) → is_decimal most_digits (word s) ≡ false
unfolding kind_in word is_decimal
word_stray [] h = refl
word_stray (b ∷ s) h = go (eqb b 37) (is_digit b) refl refl h
  where
    go : (x y : Bool) → eqb b 37 ≡ x → is_digit b ≡ y → (kind_by x y ≡ Row → ⊥) → is_decimal most_digits (word (b ∷ s)) ≡ false
    go true y p d k = stray b s (ap is_digit (eqb-true b 37 p))
    go false true p d k = absurd (k refl)
    go false false p d k = stray b s d

-- so a line that does not begin with a digit is no row
pub row_not : (size : ℕ) (s : List ℕ) → (kind_in s ≡ Row → ⊥) → is_row size (first_piece lf s) ≡ false
unfolding is_row
row_not size s h = rw (word_first s, word_stray s h) (and-false (eqb (suc (length (other_pieces space (first_piece lf s)))) size))
