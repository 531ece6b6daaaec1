-- A decimal of at most seven digits is the decimal of the number that it makes, and that number has at most seven digits: digit by digit, what was read so far is the decimal
-- of what it makes.
use mathlib.Core.Bool.{Bool, true, false, false≢true, not, ◌&&◌, ◌||◌}
use mathlib.Core.List.{List, [], ◌∷◌, ◌++◌, append-nil, append_assoc}
use mathlib.Core.Path.{◌≡◌, refl, sym, ap, ◌∙◌}
use Prim.Native.Nat.{ℕ, zero, suc, ◌+◌, ◌*◌, ◌/◌, ◌%◌, ◌^◌, ◌≤◌, ◌<◌}
use native.Mathlib.Nat.{pow-succ', mul-le-mul_right, mul_assoc, pow-le-pow_right, mul-one, one-mul}
use native.Mathlib.Omega.{arith}
use lib.Dec.{eqb, leb}
use lib.ListN.{length, get_or}
use borrow.Author.Tests.{ne_eqb, leb-true, lt-ltb, le-ltb}
use Rattle.lineage.specs.Lists.{all_of}
use Rattle.laws.proofs.Tests.{both, clash}
use Rattle.text_lines.specs.Lines.{is_digit, digit_of, is_decimal, value_from, value, decimal_by, decimal}
use Rattle.matrix_lines.specs.Matrix.{most_digits}
use Rattle.matrix_lines.specs.Grammar.{most_written}

-- with so many digits or more, these are the decimal of a
abbrev Makes : ℕ → ℕ → List ℕ → Type 0
Makes f a p = (g : ℕ) → f ≤ g → decimal_by g a ≡ p

one_digit : (d : ℕ) → d < 10 → Makes 1 d ((48 + d) ∷ [])
unfolding decimal_by
one_digit d h zero l = absurd (omega arith)
one_digit d h (suc g) l = rw (lt-ltb d 10 h)

digit_more : (f a d : ℕ) (p : List ℕ) → 1 ≤ a → d < 10 → Makes f a p → Makes (suc f) (10 * a + d) (p ++ ((48 + d) ∷ []))
unfolding decimal_by
digit_more f a d p low h m zero l = absurd (omega arith)
digit_more f a d p low h m (suc g) l =
    let tenth : (10 * a + d) / 10 ≡ a = omega arith in
    let last : (10 * a + d) % 10 ≡ d = omega arith in
    rw (le-ltb (10 * a + d) 10 (omega arith), tenth, last, m g (omega arith))

-- the byte of a digit
module _ (b : ℕ) (e : is_digit b ≡ true) where
  digit_byte : 48 + digit_of b ≡ b
  digit_byte =
      let high : 48 ≤ b = leb-true 48 b (both (leb 48 b) (leb b 57) e).0 in
      omega arith

  digit_few : digit_of b < 10
  digit_few =
      let top : b ≤ 57 = leb-true b 57 (both (leb 48 b) (leb b 57) e).1 in
      omega arith

more_digits : (w : List ℕ) (f a : ℕ) (p : List ℕ) → 1 ≤ a → all_of is_digit w ≡ true → Makes f a p → Makes (f + length w) (value_from a w) (p ++ w)
more_digits [] f a p low h m g l = m g (omega arith) ∙ sym (append-nil p)
more_digits (b ∷ w) f a p low h m g l =
    let tests = both (is_digit b) (all_of is_digit w) h in
    let next : Makes (suc f) (10 * a + digit_of b) (p ++ (b ∷ [])) =
    λ k e. digit_more f a (digit_of b) p low (digit_few b tests.0) m k e ∙ ap (λ (x : ℕ). p ++ (x ∷ [])) (digit_byte b tests.0) in
    more_digits w (suc f) (10 * a + digit_of b) (p ++ (b ∷ [])) (omega arith) tests.1 next g (omega arith) ∙ append_assoc p (b ∷ []) w

-- what the tests of a decimal say of its first digit and the others
module _ (b : ℕ) (w : List ℕ) (e : is_decimal most_digits (b ∷ w) ≡ true) where
  tests :
      ((is_digit b && all_of is_digit w) ≡ true)
      × (((leb 1 (suc (length w)) && leb (suc (length w)) 7) && (eqb (suc (length w)) 1 || not (eqb b 48))) ≡ true)
  unfolding is_decimal
  tests = both (is_digit b && all_of is_digit w) ((leb 1 (suc (length w)) && leb (suc (length w)) 7) && (eqb (suc (length w)) 1 || not (eqb b 48))) e

  sizes : ((leb 1 (suc (length w)) && leb (suc (length w)) 7) ≡ true) × ((eqb (suc (length w)) 1 || not (eqb b 48)) ≡ true)
  sizes = both (leb 1 (suc (length w)) && leb (suc (length w)) 7) (eqb (suc (length w)) 1 || not (eqb b 48)) tests.1

  short : suc (length w) ≤ 7
  short = leb-true (suc (length w)) 7 (both (leb 1 (suc (length w))) (leb (suc (length w)) 7) sizes.0).1

  first : is_digit b ≡ true
  first = (both (is_digit b) (all_of is_digit w) tests.0).0

  others : all_of is_digit w ≡ true
  others = (both (is_digit b) (all_of is_digit w) tests.0).1

  -- behind a zero stands no digit
  zero_alone : eqb b 48 ≡ true → w ≡ []
  zero_alone z = go w (rw z at sizes.1)
    where
      go : (v : List ℕ) → (eqb (suc (length v)) 1 || false) ≡ true → v ≡ []
      go [] h = refl
      go (c ∷ v) h = clash h (rw (ne_eqb (suc (suc (length v))) 1 (omega arith)))

  first_some : eqb b 48 ≡ false → 1 ≤ digit_of b
  first_some z = go (digit_of b) refl
    where
      go : (d : ℕ) → digit_of b ≡ d → 1 ≤ digit_of b
      go zero q = clash (ap (λ (x : ℕ). eqb x 48) (sym (digit_byte b first) ∙ ap (λ (x : ℕ). 48 + x) q)) z
      go (suc d) q = omega arith

  plain : 10 * 0 + digit_of b ≡ digit_of b
  plain = omega arith

  decimal_made : decimal (value (b ∷ w)) ≡ b ∷ w
  decimal_made = go (eqb b 48) refl
    where
      start : Makes 1 (10 * 0 + digit_of b) (b ∷ [])
      start k l = ap (decimal_by k) plain ∙ (one_digit (digit_of b) (digit_few b first) k l ∙ ap (λ (x : ℕ). x ∷ []) (digit_byte b first))

      go : (t : Bool) → eqb b 48 ≡ t → decimal (value (b ∷ w)) ≡ b ∷ w
      go true z = rw (zero_alone z) (start 10 (omega arith))
      go false z = more_digits w 1 (10 * 0 + digit_of b) (b ∷ []) (omega (arith, first_some z)) others start 10 (omega (arith, short))

pub decimal_of : (w : List ℕ) → is_decimal most_digits w ≡ true → decimal (value w) ≡ w
unfolding is_decimal
decimal_of [] e = absurd (false≢true e)
decimal_of (b ∷ w) e = decimal_made b w e

-- the number that digits make behind those that make a
value_low : (w : List ℕ) (a : ℕ) → all_of is_digit w ≡ true → value_from a w + 1 ≤ (a + 1) * 10 ^ length w
value_low [] a h = rw (mul-one (a + 1)) (omega arith)
value_low (b ∷ w) a h =
    let tests = both (is_digit b) (all_of is_digit w) h in
    let p : ℕ = 10 ^ length w in
    let d : ℕ = digit_of b in
    let few : d < 10 = digit_few b tests.0 in
    let rest : value_from (10 * a + d) w + 1 ≤ (10 * a + d + 1) * p = value_low w (10 * a + d) tests.1 in
    let more : (10 * a + d + 1) * p ≤ (a + 1) * 10 * p = mul-le-mul_right p (omega arith) in
    let whole : (a + 1) * 10 * p ≡ (a + 1) * 10 ^ suc (length w) = mul_assoc (a + 1) 10 p ∙ ap (λ (x : ℕ). (a + 1) * x) (sym (pow-succ' 10 (length w))) in
    omega arith

pub decimal_low : (w : List ℕ) → is_decimal most_digits w ≡ true → value w ≤ most_written
unfolding is_decimal
decimal_low w e =
    let tests = both (all_of is_digit w) ((leb 1 (length w) && leb (length w) 7) && (eqb (length w) 1 || not (eqb (get_or w 0 0) 48))) e in
    let sizes = both (leb 1 (length w) && leb (length w) 7) (eqb (length w) 1 || not (eqb (get_or w 0 0) 48)) tests.1 in
    let short : length w ≤ 7 = leb-true (length w) 7 (both (leb 1 (length w)) (leb (length w) 7) sizes.0).1 in
    let few : 10 ^ length w ≤ 10 ^ 7 = pow-le-pow_right {n = 10} (omega arith) short in
    let low : value w + 1 ≤ (0 + 1) * 10 ^ length w = value_low w 0 tests.0 in
    let one : (0 + 1) * 10 ^ length w ≡ 10 ^ length w = one-mul (10 ^ length w) in
    omega arith
