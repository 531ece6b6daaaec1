-- Pieces cut apart are put together again: a text is its lines with LF between them, and a row is its numbers' decimals with single spaces between them.
use mathlib.Core.Bool.{Bool, true, false}
use mathlib.Core.List.{List, [], ◌∷◌, ◌++◌, append_assoc}
use mathlib.Core.Path.{◌≡◌, refl, sym, ap, ap₂, ◌∙◌}
use Prim.Native.Nat.{ℕ}
use native.Mathlib.Omega.{arith}
use lib.Dec.{eqb}
use lib.ListN.{length, get_or}
use borrow.Author.Tests.{eqb-true}
use Rattle.lineage.specs.Lists.{all_of, Every}
use Rattle.laws.proofs.Tests.{both}
use Rattle.text_lines.specs.Lines.{lf, space, keep, first_piece, begin, other_pieces, pieces, is_decimal, value, decimal}
use Rattle.matrix_lines.specs.Matrix.{Raw, number, most_digits, is_row, ended, row}
use Rattle.matrix_lines.proofs.Pieces.{Lacks}
use Rattle.matrix_lines.proofs.Canonical.{decimal_of}

-- pieces with a separator between them
abbrev pub between : ℕ → List (List ℕ) → List ℕ
between s [] = []
between s (l ∷ []) = l
between s (l ∷ (m ∷ more)) = l ++ (s ∷ between s (m ∷ more))

pub pieces_back : (s : ℕ) (t : List ℕ) → between s (pieces s t) ≡ t
unfolding first_piece other_pieces
pieces_back s [] = refl
pieces_back s (b ∷ t) = go (eqb b s) refl (first_piece s t) (other_pieces s t) (pieces_back s t)
  where
    go : (x : Bool) → eqb b s ≡ x → (f : List ℕ) (os : List (List ℕ)) → between s (f ∷ os) ≡ t → between s (keep x b f ∷ begin x f os) ≡ b ∷ t
    go true e f os h = ap₂ ◌∷◌ (sym (eqb-true b s e)) h
    go false e f [] h = ap (λ (z : List ℕ). b ∷ z) h
    go false e f (o ∷ os) h = ap (λ (z : List ℕ). b ∷ z) h

-- no separator stands in a piece
first_lacks : (s : ℕ) (t : List ℕ) → Lacks s (first_piece s t)
unfolding first_piece
first_lacks s [] = refl
first_lacks s (b ∷ t) = go (eqb b s) refl (first_lacks s t)
  where
    go : (x : Bool) → eqb b s ≡ x → Lacks s (first_piece s t) → Lacks s (keep x b (first_piece s t))
    go true e h = refl
    go false e h = rw e h

others_lack : (s : ℕ) (t : List ℕ) → Every (Lacks s) (other_pieces s t)
unfolding other_pieces
others_lack s [] = tt
others_lack s (b ∷ t) = go (eqb b s) (first_lacks s t) (others_lack s t)
  where
    go : (x : Bool) → Lacks s (first_piece s t) → Every (Lacks s) (other_pieces s t) → Every (Lacks s) (begin x (first_piece s t) (other_pieces s t))
    go true f h = (f, h)
    go false f h = h

pub pieces_lack : (s : ℕ) (t : List ℕ) → Every (Lacks s) (pieces s t)
pieces_lack s t = (first_lacks s t, others_lack s t)

-- lines with LF between them, and what stands behind the last LF
pub ended_between : (lines : List Raw) (last : Raw) → between lf (lines ++ (last ∷ [])) ≡ ended lines ++ last
ended_between [] last = refl
ended_between (l ∷ []) last = sym (append_assoc l (lf ∷ []) last)
ended_between (l ∷ (m ∷ lines)) last =
    ap (λ (z : List ℕ). l ++ (lf ∷ z)) (ended_between (m ∷ lines) last) ∙ sym (append_assoc l (lf ∷ ended (m ∷ lines)) last)

-- a row of two numbers, and one of three
module _ (l : Raw) where
  abbrev words : List Raw
  words = pieces space l

  decimals : (ws : List Raw) → all_of (is_decimal most_digits) ws ≡ true → Every (λ w. decimal (value w) ≡ w) ws
  decimals [] h = tt
  decimals (w ∷ ws) h =
      let tests = both (is_decimal most_digits w) (all_of (is_decimal most_digits) ws) h in
      (decimal_of w tests.0, decimals ws tests.1)

  pub row_two : is_row 2 l ≡ true → l ≡ row (number 0 l) (number 1 l ∷ [])
  unfolding is_row
  row_two e =
      let tests = both (eqb (length words) 2) (all_of (is_decimal most_digits) words) e in
      go words (sym (pieces_back space l)) (eqb-true (length words) 2 tests.0) (decimals words tests.1)
    where
      go : (ws : List Raw) → l ≡ between space ws → length ws ≡ 2 → Every (λ w. decimal (value w) ≡ w) ws → l ≡ row (value (get_or ws 0 [])) (value (get_or ws 1 []) ∷ [])
      go [] p n d = absurd (omega arith)
      go (a ∷ []) p n d = absurd (omega arith)
      go (a ∷ (b ∷ [])) p n d = p ∙ ap₂ (λ (x y : List ℕ). x ++ (space ∷ y)) (sym d.0) (sym d.1.0)
      go (a ∷ (b ∷ (c ∷ ws))) p n d = absurd (omega arith)

  pub row_three : is_row 3 l ≡ true → l ≡ row (number 0 l) (number 1 l ∷ number 2 l ∷ [])
  unfolding is_row
  row_three e =
      let tests = both (eqb (length words) 3) (all_of (is_decimal most_digits) words) e in
      go words (sym (pieces_back space l)) (eqb-true (length words) 3 tests.0) (decimals words tests.1)
    where
      go : (ws : List Raw) → l ≡ between space ws → length ws ≡ 3 → Every (λ w. decimal (value w) ≡ w) ws
          → l ≡ row (value (get_or ws 0 [])) (value (get_or ws 1 []) ∷ value (get_or ws 2 []) ∷ [])
      go [] p n d = absurd (omega arith)
      go (a ∷ []) p n d = absurd (omega arith)
      go (a ∷ (b ∷ [])) p n d = absurd (omega arith)
      go (a ∷ (b ∷ (c ∷ []))) p n d =
          p
          ∙ ap₂ (λ (x y : List ℕ). x ++ (space ∷ y)) (sym d.0) (ap₂ (λ (x y : List ℕ). x ++ (space ∷ y)) (sym d.1.0) (sym d.1.1.0))
      go (a ∷ (b ∷ (c ∷ (z ∷ ws)))) p n d = absurd (omega arith)
