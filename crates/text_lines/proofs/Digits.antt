-- The decimal of a number: it is digits, has no needless zero and few of them, and is read back to the number.
use mathlib.Core.Bool.{Bool, true, false, not, ◌||◌, or-true}
use mathlib.Core.List.{List, [], ◌∷◌, ◌++◌}
use mathlib.Core.Path.{◌≡◌, refl, ◌∙◌}
use Prim.Native.Nat.{ℕ, zero, suc, ◌+◌, ◌*◌, ◌/◌, ◌%◌, ◌^◌, ◌≤◌, ◌<◌}
use native.Mathlib.Nat.{div-lt_iff_lt-mul, pow-suc}
use native.Mathlib.Omega.{arith}
use lib.Dec.{eqb, ltb}
use lib.ListN.{length, get_or, length-append}
use borrow.Author.Tests.{ltb-true, ltb-false, lt-ltb, le-leb, ne_eqb}
use Rattle.lineage.specs.Lists.{all_of}
use Rattle.laws.proofs.Tests.{and_both, both}
use Rattle.text_lines.specs.Lines.{is_digit, digit_of, is_decimal, value_from, value, digits, decimal_by, decimal}
use Rattle.text_lines.proofs.Decimals.{digit_is}

-- each element of one list and of another behind it
pub all_append : {A : Type 0} (p : A → Bool) (xs ys : List A) → all_of p xs ≡ true → all_of p ys ≡ true → all_of p (xs ++ ys) ≡ true
all_append p [] ys h k = k
all_append p (x ∷ xs) ys h k = and_both (both (p x) (all_of p xs) h).0 (all_append p xs ys (both (p x) (all_of p xs) h).1 k)

-- the tenth part has a digit less
pub tenth_low : (f x : ℕ) → x < 10 ^ suc f → x / 10 < 10 ^ f
tenth_low f x h = (div-lt_iff_lt-mul {k = 10} (omega arith)).1 (omega (arith, pow-suc 10 f))

-- it is digits
digits_are : (f x : ℕ) → all_of is_digit (decimal_by f x) ≡ true
unfolding decimal_by
digits_are zero x = refl
digits_are (suc f) x = go (ltb x 10) refl (digits_are f (x / 10))
  where
    go : (t : Bool) → ltb x 10 ≡ t → all_of is_digit (decimal_by f (x / 10)) ≡ true → all_of is_digit (digits t x (λ y. decimal_by f y)) ≡ true
    go true e h = rw (digit_is x (omega (arith, ltb-true x 10 e)))
    go false e h = all_append is_digit (decimal_by f (x / 10)) ((48 + x % 10) ∷ []) h (rw (digit_is (x % 10) (omega arith)))

-- a number of at least one digit
digits_some : (f x : ℕ) → 1 ≤ length (decimal_by (suc f) x)
unfolding decimal_by
digits_some f x = go (ltb x 10)
  where
    go : (t : Bool) → 1 ≤ length (digits t x (λ y. decimal_by f y))
    go true = omega arith
    go false = omega (arith, length-append (decimal_by f (x / 10)) ((48 + x % 10) ∷ []))

-- the first of digits that stand before another
first_stays : (xs : List ℕ) (d : ℕ) → 49 ≤ get_or xs 0 0 → 49 ≤ get_or (xs ++ (d ∷ [])) 0 0
first_stays [] d h = omega arith
first_stays (x ∷ xs) d h = h

-- a number that is not 0 begins with no zero
first_digit : (f x : ℕ) → 1 ≤ x → x < 10 ^ f → 49 ≤ get_or (decimal_by f x) 0 0
unfolding decimal_by
first_digit zero x low high = omega arith
first_digit (suc f) x low high = go (ltb x 10) refl (λ h. first_digit f (x / 10) h (tenth_low f x high))
  where
    go : (t : Bool) → ltb x 10 ≡ t → (1 ≤ x / 10 → 49 ≤ get_or (decimal_by f (x / 10)) 0 0) → 49 ≤ get_or (digits t x (λ y. decimal_by f y)) 0 0
    go true e h = omega arith
    go false e h = first_stays (decimal_by f (x / 10)) (48 + x % 10) (h (omega (arith, ltb-false x 10 e)))

-- at most k digits below 10 to the k
digits_few : (f k x : ℕ) → x < 10 ^ suc k → length (decimal_by f x) ≤ suc k
unfolding decimal_by
digits_few zero k x h = omega arith
digits_few (suc f) zero x h = rw (lt-ltb x 10 h) (omega arith)
digits_few (suc f) (suc k) x h = go (ltb x 10) (digits_few f k (x / 10) (tenth_low (suc k) x h))
  where
    go : (t : Bool) → length (decimal_by f (x / 10)) ≤ suc k → length (digits t x (λ y. decimal_by f y)) ≤ suc (suc k)
    go true l = omega arith
    go false l = omega (arith, length-append (decimal_by f (x / 10)) ((48 + x % 10) ∷ []))

-- a digit more
value_more : (a : ℕ) (xs : List ℕ) (b : ℕ) → value_from a (xs ++ (b ∷ [])) ≡ 10 * value_from a xs + digit_of b
value_more a [] b = refl
value_more a (x ∷ xs) b = value_more (10 * a + digit_of x) xs b

-- the digits make the number
digits_value : (f x : ℕ) → x < 10 ^ f → value (decimal_by f x) ≡ x
unfolding decimal_by
digits_value zero x h = omega arith
digits_value (suc f) x h = go (ltb x 10) refl (digits_value f (x / 10) (tenth_low f x h))
  where
    go : (t : Bool) → ltb x 10 ≡ t → value (decimal_by f (x / 10)) ≡ x / 10 → value (digits t x (λ y. decimal_by f y)) ≡ x
    go true e r = omega arith
    go false e r = value_more 0 (decimal_by f (x / 10)) (48 + x % 10) ∙ omega arith

-- The decimal of a number of 32 bits.
pub decimal_digits : (x : ℕ) → all_of is_digit (decimal x) ≡ true
decimal_digits x = digits_are 10 x

pub decimal_some : (x : ℕ) → 1 ≤ length (decimal x)
decimal_some x = digits_some 9 x

-- one digit, or the first is no zero
pub decimal_first : (x : ℕ) → x < 10 ^ 10 → (eqb (length (decimal x)) 1 || not (eqb (get_or (decimal x) 0 0) 48)) ≡ true
unfolding decimal_by
decimal_first zero h = refl
decimal_first (suc x) h = rw (ne_eqb (get_or (decimal (suc x)) 0 0) 48 (omega (arith, first_digit 10 (suc x) (omega arith) h))) (or-true (eqb (length (decimal (suc x))) 1))

pub decimal_few : (k x : ℕ) → 1 ≤ k → x < 10 ^ k → length (decimal x) ≤ k
decimal_few zero x low h = omega arith
decimal_few (suc k) x low h = digits_few 10 k x h

pub decimal_value : (x : ℕ) → x < 10 ^ 10 → value (decimal x) ≡ x
decimal_value x h = digits_value 10 x h

-- so it is a decimal
pub decimal_is : (most x : ℕ) → 1 ≤ most → x < 10 ^ most → x < 10 ^ 10 → is_decimal most (decimal x) ≡ true
unfolding is_decimal
decimal_is most x low h high =
    rw (decimal_digits x, le-leb 1 (length (decimal x)) (decimal_some x), le-leb (length (decimal x)) most (decimal_few most x low h)) (decimal_first x high)
