-- The byte that stands first: its kind says what it is, and so what the bytes look like from there.
use mathlib.Core.Bool.{Bool, true, false, true≢false, and-eq-true_iff}
use mathlib.Core.List.{List, [], ◌∷◌}
use mathlib.Core.Logic.{inl, inr}
use mathlib.Core.Path.{◌≡◌, refl, sym, ◌∙◌, subst}
use Prim.Native.Nat.{ℕ, ◌+◌, ◌-◌, ◌≤◌, ◌<◌}
use native.Mathlib.Omega.{arith}
use lib.Dec.{eqb, leb}
use lib.ListN.{length, get_or, drop, drop_of_length-le, length-drop}
use lib.Seq.{drop-cons}
use borrow.Author.Tests.{eqb-true, leb-true, leb-false, ne_eqb, le-leb, lt-leb}
use types.Run.{OneOf}
use Rattle.text_lines.specs.declared.Byte.{Byte}
use Rattle.text_lines.specs.declared.Byte.TheVariants.{Letter, Digit, Space, Lf, Other, End}
use Rattle.text_lines.specs.Lines.{space, lf, is_digit, digit_of}
use Rattle.text_lines.specs.Reader.{is_letter, kind_by, kind, byte_in, is_break}

-- past the end
pub end_here : (s : List ℕ) (at : ℕ) → length s ≤ at → End ≡ byte_in (drop at s)
unfolding byte_in
end_here s at h = rw (drop_of_length-le s h)

-- the byte at a position is the first from there on
pub byte_here : (s : List ℕ) (at : ℕ) → at < length s → kind (get_or s at 0) ≡ byte_in (drop at s)
unfolding byte_in
byte_here s at h = rw (drop-cons s at 0 h)

-- the kind of a byte, from its value
pub digit_kind : (b : ℕ) → 48 ≤ b → b < 58 → kind b ≡ Digit (b - 48)
digit_kind b low high =
    rw (ne_eqb b 118 (omega arith), ne_eqb b 101 (omega arith), ne_eqb b 111 (omega arith), ne_eqb b 113 (omega arith), le-leb 48 b low, le-leb b 57 (omega arith))

-- e, o, q and v
abbrev pub letters : List ℕ
letters = 101 ∷ 111 ∷ 113 ∷ 118 ∷ []

pub letter_kind : (b : ℕ) → OneOf letters b → kind b ≡ Letter b
letter_kind b (inl e) = rw e
letter_kind b (inr (inl e)) = rw e
letter_kind b (inr (inr (inl e))) = rw e
letter_kind b (inr (inr (inr e))) = rw e

pub other_kind : (b : ℕ) → (OneOf letters b → ⊥) → (b ≡ space → ⊥) → (b ≡ lf → ⊥) → is_digit b ≡ false → kind b ≡ Other
other_kind b l s n d =
    rw (ne_eqb b 118 (λ e. l (inr (inr (inr e)))), ne_eqb b 101 (λ e. l (inl e)), ne_eqb b 111 (λ e. l (inr (inl e))), ne_eqb b 113 (λ e. l (inr (inr (inl e)))), d, ne_eqb b space s, ne_eqb b lf n)

pub below_digits : (b : ℕ) → b < 48 → is_digit b ≡ false
below_digits b h = rw (lt-leb 48 b h)

pub above_digits : (b : ℕ) → 58 ≤ b → is_digit b ≡ false
above_digits b h = rw (le-leb 48 b (omega arith), lt-leb b 57 h)

-- no digit and no letter ends a word
pub digit_goes : (d : ℕ) → is_break (48 + d) ≡ false
digit_goes d = rw (ne_eqb (48 + d) 32 (omega arith), ne_eqb (48 + d) 10 (omega arith))

pub letter_goes : (b : ℕ) → 101 ≤ b → is_break b ≡ false
letter_goes b h = rw (ne_eqb b 32 (omega arith), ne_eqb b 10 (omega arith))

-- what a kind says of the bytes from there on
pub data Sees : Byte → List ℕ → Type 0 where
  letter : (b : ℕ) (more : List ℕ) → 101 ≤ b → Sees (Letter b) (b ∷ more)
  digit : (d : ℕ) (more : List ℕ) → d ≤ 9 → Sees (Digit d) ((48 + d) ∷ more)
  blank : (more : List ℕ) → Sees Space (space ∷ more)
  newline : (more : List ℕ) → Sees Lf (lf ∷ more)
  other : (b : ℕ) (more : List ℕ) → is_letter b ≡ false → is_digit b ≡ false → is_break b ≡ false → Sees Other (b ∷ more)
  nothing : Sees End []

-- no letter stands before e
pub letter_high : (b : ℕ) → is_letter b ≡ true → 101 ≤ b
letter_high b e = go (leb 101 b) refl
  where
    go : (t : Bool) → leb 101 b ≡ t → 101 ≤ b
    go true h = leb-true 101 b h
    go false h =
        let low : b < 101 = leb-false 101 b h in
        let not : is_letter b ≡ false =
        rw (ne_eqb b 118 (omega arith), ne_eqb b 101 (omega arith), ne_eqb b 111 (omega arith), ne_eqb b 113 (omega arith)) in
        absurd (true≢false (sym e ∙ not))

module _ (b : ℕ) (more : List ℕ) where
  sees_digit : is_digit b ≡ true → Sees (Digit (digit_of b)) (b ∷ more)
  sees_digit e =
      let tests = (and-eq-true_iff (leb 48 b) (leb b 57)).0 e in
      let low : 48 ≤ b = leb-true 48 b tests.0 in
      let high : b ≤ 57 = leb-true b 57 tests.1 in
      let same : 48 + digit_of b ≡ b = omega arith in
      subst (λ (x : ℕ). Sees (Digit (digit_of b)) (x ∷ more)) same (digit (digit_of b) more (omega arith))

  sees_by : (x y z w : Bool) → is_letter b ≡ x → is_digit b ≡ y → eqb b space ≡ z → eqb b lf ≡ w → Sees (kind_by x y z w b) (b ∷ more)
  sees_by true y z w l d s n = letter b more (letter_high b l)
  sees_by false true z w l d s n = sees_digit d
  sees_by false false true w l d s n = subst (λ (x : ℕ). Sees Space (x ∷ more)) (sym (eqb-true b space s)) (blank more)
  sees_by false false false true l d s n = subst (λ (x : ℕ). Sees Lf (x ∷ more)) (sym (eqb-true b lf n)) (newline more)
  sees_by false false false false l d s n = other b more l d (rw (s, n))

sees : (s : List ℕ) → Sees (byte_in s) s
unfolding byte_in
sees [] = nothing
sees (b ∷ more) = sees_by b more (is_letter b) (is_digit b) (eqb b space) (eqb b lf) refl refl refl refl

-- what `byte_at` gave
pub seen : (x : Byte) (s : List ℕ) → x ≡ byte_in s → Sees x s
seen x s e = subst (λ (y : Byte). Sees y s) (sym e) (sees s)

long : {x : Byte} {s : List ℕ} → Sees x s → (x ≡ End → ⊥) → 0 < length s
long (letter b more e) h = omega arith
long (digit d more e) h = omega arith
long (blank more) h = omega arith
long (newline more) h = omega arith
long (other b more l e f) h = omega arith
long nothing h = absurd (h refl)

-- where a byte is seen the text goes on
pub within : (text : List ℕ) (at : ℕ) {x : Byte} → Sees x (drop at text) → (x ≡ End → ⊥) → at < length text
within text at e h = omega (arith, long e h, length-drop at text)
