-- Pieces put together with separators are cut apart again: the words of a row, and the lines of a text.
use mathlib.Core.Bool.{Bool, true, false, not}
use mathlib.Core.List.{List, [], ◌∷◌, ◌++◌, map}
use mathlib.Core.Path.{◌≡◌, refl, ap, ap₂, ◌∙◌}
use Prim.Native.Nat.{ℕ, ◌≤◌, ◌<◌}
use native.Mathlib.Omega.{arith}
use lib.Dec.{eqb, leb}
use borrow.Author.Tests.{eq-eqb, ne_eqb, leb-true, not-true}
use Rattle.lineage.specs.Lists.{all_of, Every}
use Rattle.laws.proofs.Tests.{both}
use Rattle.text_lines.specs.Lines.{space, lf, is_digit, first_piece, other_pieces, pieces, decimal}
use Rattle.matrix_lines.specs.Matrix.{Raw, ended, row}
use Rattle.text_lines.proofs.Digits.{all_append, decimal_digits}

-- another byte than the separator
abbrev pub other : ℕ → ℕ → Bool
other s b = not (eqb b s)

-- the separator does not stand in the piece
abbrev pub Lacks : ℕ → List ℕ → Type 0
Lacks s l = all_of (other s) l ≡ true

module _ (s b : ℕ) (l : List ℕ) (h : Lacks s (b ∷ l)) where
  pub lacks_first : eqb b s ≡ false
  lacks_first = not-true (eqb b s) (both (other s b) (all_of (other s) l) h).0

  pub lacks_more : Lacks s l
  lacks_more = (both (other s b) (all_of (other s) l) h).1

-- a piece, its separator, and the rest
module _ (s : ℕ) (rest : List ℕ) where
  first_front : (l : List ℕ) → Lacks s l → first_piece s (l ++ (s ∷ rest)) ≡ l
  unfolding first_piece
  first_front [] h = rw (eq-eqb s s refl)
  first_front (b ∷ l) h = rw (lacks_first s b l h) (ap (λ (k : List ℕ). b ∷ k) (first_front l (lacks_more s b l h)))

  others_front : (l : List ℕ) → Lacks s l → other_pieces s (l ++ (s ∷ rest)) ≡ pieces s rest
  unfolding first_piece other_pieces
  others_front [] h = rw (eq-eqb s s refl)
  others_front (b ∷ l) h = rw (lacks_first s b l h) (others_front l (lacks_more s b l h))

pub pieces_front : (s : ℕ) (l rest : List ℕ) → Lacks s l → pieces s (l ++ (s ∷ rest)) ≡ l ∷ pieces s rest
pieces_front s l rest h = ap₂ (λ (x : List ℕ) (xs : List (List ℕ)). x ∷ xs) (first_front s rest l h) (others_front s rest l h)

-- a piece behind the last separator
pub pieces_last : (s : ℕ) (l : List ℕ) → Lacks s l → pieces s l ≡ l ∷ []
unfolding first_piece other_pieces
pieces_last s [] h = refl
pieces_last s (b ∷ l) h =
    let rest : pieces s l ≡ l ∷ [] = pieces_last s l (lacks_more s b l h) in
    let first : first_piece s l ≡ l = cc in
    let none : other_pieces s l ≡ [] = cc in
    rw (lacks_first s b l h, first, none)

-- a space and LF are no digits
digits_lack : (s : ℕ) → s < 48 → (w : List ℕ) → all_of is_digit w ≡ true → Lacks s w
digits_lack s low [] h = refl
digits_lack s low (b ∷ w) h =
    let tests = both (is_digit b) (all_of is_digit w) h in
    let high : 48 ≤ b = leb-true 48 b (both (leb 48 b) (leb b 57) tests.0).0 in
    rw (ne_eqb b s (omega arith)) (digits_lack s low w tests.1)

pub decimal_lacks : (s x : ℕ) → s < 48 → Lacks s (decimal x)
decimal_lacks s x low = digits_lack s low (decimal x) (decimal_digits x)

-- the words of a row are its decimals
pub row_pieces : (x : ℕ) (xs : List ℕ) → pieces space (row x xs) ≡ map (λ y. decimal y) (x ∷ xs)
row_pieces x [] = pieces_last space (decimal x) (decimal_lacks space x (omega arith))
row_pieces x (y ∷ xs) =
    pieces_front space (decimal x) (row y xs) (decimal_lacks space x (omega arith)) ∙ ap (λ (ws : List (List ℕ)). decimal x ∷ ws) (row_pieces y xs)

-- no LF stands in a row
pub row_lacks : (x : ℕ) (xs : List ℕ) → Lacks lf (row x xs)
row_lacks x [] = decimal_lacks lf x (omega arith)
row_lacks x (y ∷ xs) = all_append (other lf) (decimal x) (space ∷ row y xs) (decimal_lacks lf x (omega arith)) (row_lacks y xs)

-- the lines of a text that was put together from lines, and nothing behind the last LF
pub ended_pieces : (lines : List Raw) → Every (Lacks lf) lines → pieces lf (ended lines) ≡ lines ++ ([] ∷ [])
unfolding first_piece other_pieces
ended_pieces [] h = refl
ended_pieces (l ∷ lines) h = pieces_front lf l (ended lines) h.0 ∙ ap (λ (ls : List Raw). l ∷ ls) (ended_pieces lines h.1)
