-- Bytes put into a buffer: what is put behind what was put is put as one, and a number's digits are those of its tenth part and the last.
use mathlib.Core.Bool.{Bool, true, false, cond}
use mathlib.Core.List.{List, [], ◌∷◌, ◌++◌}
use mathlib.Core.Path.{◌≡◌, refl, sym, ap, ap₂, ◌∙◌, subst}
use Prim.Native.Nat.{ℕ, zero, suc, ◌+◌, ◌/◌, ◌%◌, ◌^◌, ◌≤◌, ◌<◌}
use native.Mathlib.Omega.{arith}
use lib.Dec.{ltb}
use lib.ListN.{length, set, length-append}
use borrow.Author.Tests.{lt-ltb, le-ltb}
use Rattle.lineage.specs.Calls.{Outcome, refused, answered, Said}
use Rattle.text_lines.specs.Lines.{bytes, digits, decimal_by, decimal}
use Rattle.text_lines.proofs.Digits.{tenth_low}
use Rattle.text.specs.Output.{two_numbers, three_numbers, said, told, question, question_line}
use Rattle.numbers.specs.Put.{put}
use Rattle.numbers.proofs.Put.{put_none, put_next, put_sets}
use Rattle.text_printing.specs.Printer.{Put}

-- one byte is put
pub put_one : (out : List ℕ) (at b : ℕ) → at < length out → Put out at (b ∷ []) (at + 1) (set out at b)
put_one out at b low = record { behind = refl; whole = put_sets out at (b ∷ []) (omega arith) }

-- nothing is put
pub put_empty : (out : List ℕ) (at : ℕ) → Put out at [] (at + 0) out
put_empty out at = record { behind = refl; whole = sym (put_none out at) }

-- bytes are put behind bytes
pub put_put : {out mid exit : List ℕ} {at next last : ℕ} {xs ys : List ℕ} → Put out at xs next mid → Put mid next ys last exit → at ≤ length out → Put out at (xs ++ ys) last exit
put_put {out} {mid} {exit} {at} {next} {last} {xs} {ys} p q low = record {
  behind = omega (arith, p.behind, q.behind, length-append xs ys);
  whole = q.whole ∙ (ap₂ (λ (s : List ℕ) (k : ℕ). put s k ys) p.whole p.behind ∙ put_next out at xs low ys);
}

-- as many digits as may be, or one more: the decimal is the same
decimal_settled : (f x : ℕ) → x < 10 ^ suc f → decimal_by (suc f) x ≡ decimal_by (suc (suc f)) x
unfolding decimal_by
decimal_settled zero x h = rw (lt-ltb x 10 h)
decimal_settled (suc f) x h = go (ltb x 10) (decimal_settled f (x / 10) (tenth_low (suc f) x h))
  where
    go : (t : Bool) → decimal_by (suc f) (x / 10) ≡ decimal_by (suc (suc f)) (x / 10) → digits t x (λ y. decimal_by (suc f) y) ≡ digits t x (λ y. decimal_by (suc (suc f)) y)
    go true e = refl
    go false e = ap (λ (s : List ℕ). s ++ ((48 + x % 10) ∷ [])) e

-- a number of one digit
decimal_one : (x : ℕ) → x < 10 → decimal x ≡ (48 + x % 10) ∷ []
unfolding decimal_by
decimal_one x h = rw (lt-ltb x 10 h) (ap (λ (d : ℕ). (48 + d) ∷ []) (omega arith))

-- a number of more: those of its tenth part, then the last
decimal_more : (x : ℕ) → 10 ≤ x → x < 10 ^ 10 → decimal x ≡ decimal (x / 10) ++ ((48 + x % 10) ∷ [])
unfolding decimal_by
decimal_more x h high = rw (le-ltb x 10 h) (ap (λ (s : List ℕ). s ++ ((48 + x % 10) ∷ [])) (decimal_settled 8 (x / 10) (tenth_low 9 x high)))

decimal_short : (f x : ℕ) → length (decimal_by f x) ≤ f
unfolding decimal_by
decimal_short zero x = omega arith
decimal_short (suc f) x = go (ltb x 10) (decimal_short f (x / 10))
  where
    go : (t : Bool) → length (decimal_by f (x / 10)) ≤ f → length (digits t x (λ y. decimal_by f y)) ≤ suc f
    go true h = omega arith
    go false h = omega (arith, length-append (decimal_by f (x / 10)) ((48 + x % 10) ∷ []))

pub number_short : (x : ℕ) → length (decimal x) ≤ 10
number_short x = decimal_short 10 x

-- the same bytes
pub put_same : {out exit : List ℕ} {at next : ℕ} {xs ys : List ℕ} → xs ≡ ys → Put out at xs next exit → Put out at ys next exit
put_same {out} {exit} {at} {next} e p = subst (λ (s : List ℕ). Put out at s next exit) e p

-- the digit of a number of one digit is put
pub number_one : {out exit : List ℕ} {at next b : ℕ} (x : ℕ) → x < 10 → b ≡ 48 + x % 10 → Put out at (b ∷ []) next exit → Put out at (decimal x) next exit
number_one x h e p = put_same (ap (λ (d : ℕ). d ∷ []) e ∙ sym (decimal_one x h)) p

-- it has one digit, and any other number one more than its tenth part
pub one_long : (x : ℕ) → x < 10 → length (decimal x) ≡ 1
one_long x h = ap length (decimal_one x h)

pub tenth_long : (x : ℕ) → 10 ≤ x → x < 2 ^ 32 → length (decimal x) ≡ length (decimal (x / 10)) + 1
tenth_long x low fits = ap length (decimal_more x low (omega arith)) ∙ length-append (decimal (x / 10)) ((48 + x % 10) ∷ [])

module _ {out mid : List ℕ} {at p : ℕ} (x : ℕ) (low : 10 ≤ x) (fits : x < 2 ^ 32) (tenth : Put out at (decimal (x / 10)) p mid) where
  -- its tenth part is put, and there is room for the last digit
  pub number_room : at + length (decimal x) ≤ length out → p < length out
  number_room h = omega (arith, tenth_long x low fits, tenth.behind)

  -- and the last digit behind it
  pub number_more : {exit : List ℕ} {next b : ℕ} → b ≡ 48 + x % 10 → Put mid p (b ∷ []) next exit → at ≤ length out → Put out at (decimal x) next exit
  number_more {exit} {next} {b} e q front = put_same (ap (λ (d : ℕ). decimal (x / 10) ++ (d ∷ [])) e ∙ sym (decimal_more x low (omega arith))) (put_put tenth q front)

-- yes or no, by the test that was made
pub said_is : (says t : Bool) (reason opened deciding : ℕ) → says ≡ t
    → said (record { says = t; reason = reason; opened = opened; deciding = deciding }) ≡ said (record { says = says; reason = reason; opened = opened; deciding = deciding })
said_is says t reason opened deciding e = ap (λ (b : Bool). said (record { says = b; reason = reason; opened = opened; deciding = deciding })) (sym e)

-- How long a line is at most: any number has at most ten digits.
pub two_short : (x y : ℕ) → length (two_numbers x y) ≤ 21
two_short x y = omega (arith, number_short x, number_short y, length-append (decimal x) (bytes " " ++ decimal y))

three_short : (x y z : ℕ) → length (three_numbers x y z) ≤ 32
three_short x y z = omega (arith, number_short x, two_short y z, length-append (decimal x) (bytes " " ++ two_numbers y z))

pub told_short : (o : Outcome Said) → length (told o) ≤ 36
told_short (refused number extra) = omega (arith, two_short number extra)
told_short (answered a) = go a.says (three_short a.reason a.opened a.deciding)
  where
    numbers : List ℕ
    numbers = three_numbers a.reason a.opened a.deciding

    go : (t : Bool) → length numbers ≤ 32 → length (cond t (bytes "yes ") (bytes "no ") ++ numbers) ≤ 36
    go true h = omega arith
    go false h = omega arith

pub question_short : (u v : ℕ) → length (question u v) ≤ 24
question_short u v = omega (arith, length-append (two_numbers u v) (bytes " "), two_short u v)

-- the line of a question
pub line_short : (u v : ℕ) (o : Outcome Said) → length (question_line u v o) ≤ 61
line_short u v o =
    omega
    (arith, length-append (question u v) (told o ++ bytes "\n"), question_short u v, length-append (told o) (bytes "\n"), told_short o)
