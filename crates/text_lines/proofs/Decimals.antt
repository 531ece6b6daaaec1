-- Reading a number, digit by digit: what is still to be read of its word says the same as the word from the start.
use mathlib.Core.Bool.{Bool, true, false, ◌&&◌, ◌||◌, and-true, and-false, or-true}
use mathlib.Core.List.{List, ◌∷◌}
use mathlib.Core.Path.{◌≡◌, refl, sym, ap, ◌∙◌}
use Prim.Native.Nat.{ℕ, zero, suc, ◌+◌, ◌-◌, ◌*◌, ◌^◌, ◌≤◌, ◌<◌}
use native.Mathlib.Nat.{pow-succ', mul-le-mul_right, mul_assoc, le-mul_of_pos_right, one-le-pow, pow-le-pow_right, add-zero}
use native.Mathlib.Omega.{arith}
use lib.Dec.{eqb, leb, leb-zero, leb-suc-suc, leb-suc-zero}
use lib.ListN.{length, drop}
use lib.Seq.{drop-drop}
use borrow.Author.Tests.{ne_eqb, le-leb}
use mathlib.Core.Logic.{◌⊎◌, inl, inr}
use Rattle.lineage.specs.Lists.{all_of}
use Rattle.text_lines.specs.declared.Byte.{Byte}
use Rattle.text_lines.specs.declared.Byte.TheVariants.{Digit, Space, Lf}
use Rattle.std.proofs.Common.{Some, None}
use Rattle.text_lines.specs.Lines.{is_digit, digit_of, value_from, value, is_decimal}
use Rattle.text_lines.specs.Reader.{word, is_ended, digits_in, number_in}
use Rattle.text_lines.proofs.Bytes.{above_digits, digit_goes, letter_goes, Sees, letter, digit, blank, newline, other, nothing}

-- the byte of a digit
pub digit_is : (d : ℕ) → d ≤ 9 → is_digit (48 + d) ≡ true
digit_is d h = rw (le-leb 48 (48 + d) (omega arith), le-leb (48 + d) 57 (omega arith))

digit_value : (d : ℕ) → digit_of (48 + d) ≡ d
digit_value d = omega arith

module _ (v i : ℕ) where
  -- a digit, where one more may stand
  digit_next : (l : ℕ) {d : ℕ} {s : List ℕ} → Sees (Digit d) s → digits_in l (10 * v + d) (i + 1) (drop 1 s) ≡ digits_in (suc l) v i s
  unfolding digits_in word is_ended
  digit_next l (digit d more h) =
      let made : value_from v ((48 + d) ∷ word more) ≡ value_from (10 * v + d) (word more) = ap (λ (x : ℕ). value_from (10 * v + x) (word more)) (digit_value d) in
      let next : i + 1 + length (word more) ≡ i + suc (length (word more)) = omega arith in
      rw (digit_goes d, digit_is d h, made, leb-suc-suc (length (word more)) l, next)

  -- a space or LF
  pub number_ends : (l : ℕ) {x : Byte} {s : List ℕ} → Sees x s → (x ≡ Space) ⊎ (x ≡ Lf) → Some (record { value = v; next = i }) ≡ digits_in l v i s
  unfolding digits_in word is_ended
  number_ends l (blank more) h = rw (leb-zero l, add-zero i)
  number_ends l (newline more) h = rw (leb-zero l, add-zero i)
  number_ends l (letter b more e) h = elim h [ inl h ↦ cc | inr h ↦ cc ]
  number_ends l (digit d more e) h = elim h [ inl h ↦ cc | inr h ↦ cc ]
  number_ends l (other b more n e f) h = elim h [ inl h ↦ cc | inr h ↦ cc ]
  number_ends l nothing h = elim h [ inl h ↦ cc | inr h ↦ cc ]

  -- anything else
  pub number_strays : (l : ℕ) {x : Byte} {s : List ℕ} → Sees x s → ((d : ℕ) → x ≡ Digit d → ⊥) → (x ≡ Space → ⊥) → (x ≡ Lf → ⊥) → None ≡ digits_in l v i s
  unfolding digits_in word is_ended
  number_strays l (letter b more e) d h k = rw (letter_goes b e, above_digits b (omega arith), and-false (is_ended more))
  number_strays l (digit d more e) n h k = absurd (n d refl)
  number_strays l (blank more) d h k = absurd (h refl)
  number_strays l (newline more) d h k = absurd (k refl)
  number_strays l (other b more n e f) d h k = rw (f, e, and-false (is_ended more))
  number_strays l nothing d h k = refl

  -- where no digit more may stand, a digit strays too
  pub number_over : {x : Byte} {s : List ℕ} → Sees x s → (x ≡ Space → ⊥) → (x ≡ Lf → ⊥) → None ≡ digits_in 0 v i s
  unfolding digits_in word is_ended
  number_over (digit d more e) h k =
      rw (digit_goes d, digit_is d e, leb-suc-zero (length (word more)), and-false (all_of is_digit (word more)), and-false (is_ended more))
  number_over (letter b more e) h k = number_strays 0 (letter b more e) (λ d q. cc) h k
  number_over (blank more) h k = absurd (h refl)
  number_over (newline more) h k = absurd (k refl)
  number_over (other b more n e f) h k = number_strays 0 (other b more n e f) (λ d q. cc) h k
  number_over nothing h k = refl

-- one turn: a digit more, and one fewer may follow
pub digit_turn : (text : List ℕ) (left v at i : ℕ) {d : ℕ} → i < left → Sees (Digit d) (drop (at + i) text)
    → digits_in (left - (i + 1)) (10 * v + d) (at + (i + 1)) (drop (at + (i + 1)) text) ≡ digits_in (left - i) v (at + i) (drop (at + i) text)
digit_turn text left v at i {d} h e =
    let one : left - i ≡ suc (left - (i + 1)) = omega arith in
    let next : at + (i + 1) ≡ at + i + 1 = omega arith in
    rw (one, next) (ap (digits_in (left - (i + 1)) (10 * v + d) (at + i + 1)) (sym (drop-drop 1 (at + i) text)) ∙ digit_next v (at + i) (left - (i + 1)) e)

-- so many digits still fit
pub digit_room : (left v i d : ℕ) → (v + 1) * 10 ^ (left - i) ≤ 10 ^ 9 → i < left → d ≤ 9 → (10 * v + d + 1) * 10 ^ (left - (i + 1)) ≤ 10 ^ 9
digit_room left v i d room h low =
    let l : ℕ = left - (i + 1) in
    let more : (10 * v + d + 1) * 10 ^ l ≤ (v + 1) * 10 * 10 ^ l = mul-le-mul_right (10 ^ l) (omega arith) in
    let power : 10 ^ (left - i) ≡ 10 * 10 ^ l = ap (λ (k : ℕ). 10 ^ k) (omega arith) ∙ pow-succ' 10 l in
    let whole : (v + 1) * 10 * 10 ^ l ≡ (v + 1) * 10 ^ (left - i) = mul_assoc (v + 1) 10 (10 ^ l) ∙ ap (λ (x : ℕ). (v + 1) * x) (sym power) in
    omega arith

-- a number with room is a number
pub room_fits : (l v : ℕ) → (v + 1) * 10 ^ l ≤ 10 ^ 9 → v < 10 ^ 9
room_fits l v room = omega (arith, le-mul_of_pos_right (v + 1) (one-le-pow l 10 (omega arith)))

-- a digit is at most 9
pub digit_low : {d : ℕ} {s : List ℕ} → Sees (Digit d) s → d ≤ 9
digit_low (digit d more h) = h

-- how many digits may follow the first: none behind a zero, one less than the most behind another
zero_alone : (k most : ℕ) → 1 ≤ most → ((leb 1 (suc k) && leb (suc k) most) && (eqb (suc k) 1 || false)) ≡ leb k 0
zero_alone zero most h = rw (le-leb 1 most h)
zero_alone (suc k) most h =
    rw (ne_eqb (suc (suc k)) 1 (omega arith), leb-suc-zero k, and-false (leb 1 (suc (suc k)) && leb (suc (suc k)) most))

others_follow : (k most : ℕ) (b : Bool) → 1 ≤ most → ((leb 1 (suc k) && leb (suc k) most) && (b || true)) ≡ leb k (most - 1)
others_follow k most b h =
    let full : most ≡ suc (most - 1) = omega arith in
    rw (leb-suc-suc 0 k, leb-zero k, or-true b, and-true (leb (suc k) most)) (ap (λ (m : ℕ). leb (suc k) m) full ∙ leb-suc-suc k (most - 1))

zero_first : (most at : ℕ) {d : ℕ} {s : List ℕ} → Sees (Digit d) s → d ≡ 0 → 1 ≤ most → digits_in 0 0 (at + 1) (drop 1 s) ≡ number_in most at s
unfolding digits_in number_in word is_ended is_decimal
zero_first most at (digit d more h) e low =
    let next : at + 1 + length (word more) ≡ at + suc (length (word more)) = omega arith in
    rw (digit_goes d, digit_is d h, e) (rw (zero_alone (length (word more)) most low, next))

other_first : (most at : ℕ) {d : ℕ} {s : List ℕ} → Sees (Digit d) s → (d ≡ 0 → ⊥) → 1 ≤ most → digits_in (most - 1) d (at + 1) (drop 1 s) ≡ number_in most at s
unfolding digits_in number_in word is_ended is_decimal
other_first most at (digit d more h) e low =
    let made : value ((48 + d) ∷ word more) ≡ value_from d (word more) = ap (λ (x : ℕ). value_from x (word more)) (omega arith) in
    let next : at + 1 + length (word more) ≡ at + suc (length (word more)) = omega arith in
    rw (digit_goes d, digit_is d h, ne_eqb (48 + d) 48 (λ q. e (omega arith)), made, next, others_follow (length (word more)) most (eqb (suc (length (word more))) 1) low)

module _ (text : List ℕ) (most at : ℕ) where
  -- the first digit is a zero
  pub number_zero : {d : ℕ} → Sees (Digit d) (drop at text) → d ≡ 0 → 1 ≤ most → digits_in 0 0 (at + 1) (drop (at + 1) text) ≡ number_in most at (drop at text)
  number_zero e z low = ap (digits_in 0 0 (at + 1)) (sym (drop-drop 1 at text)) ∙ zero_first most at e z low

  -- the first digit is another
  pub number_other : {d : ℕ} → Sees (Digit d) (drop at text) → (d ≡ 0 → ⊥) → 1 ≤ most
      → digits_in (most - 1) d (at + 1) (drop (at + 1) text) ≡ number_in most at (drop at text)
  number_other {d} e z low = ap (digits_in (most - 1) d (at + 1)) (sym (drop-drop 1 at text)) ∙ other_first most at e z low

-- behind the first digit the others fit
pub first_room : (most d : ℕ) → d ≤ 9 → 1 ≤ most → most ≤ 9 → (d + 1) * 10 ^ (most - 1) ≤ 10 ^ 9
first_room most d h low high =
    let more : (d + 1) * 10 ^ (most - 1) ≤ 10 * 10 ^ (most - 1) = mul-le-mul_right (10 ^ (most - 1)) (omega arith) in
    let power : 10 ^ most ≡ 10 * 10 ^ (most - 1) = ap (λ (k : ℕ). 10 ^ k) (omega arith) ∙ pow-succ' 10 (most - 1) in
    omega (arith, pow-le-pow_right {n = 10} (omega arith) high)

-- no digit stands first
pub number_none : (most at : ℕ) {x : Byte} {s : List ℕ} → Sees x s → ((d : ℕ) → x ≡ Digit d → ⊥) → None ≡ number_in most at s
unfolding number_in word is_ended is_decimal
number_none most at (letter b more e) h = rw (letter_goes b e, above_digits b (omega arith), and-false (is_ended more))
number_none most at (digit d more e) h = absurd (h d refl)
number_none most at (blank more) h = refl
number_none most at (newline more) h = refl
number_none most at (other b more n e f) h = rw (f, e, and-false (is_ended more))
number_none most at nothing h = refl
