-- Marks that bear a stamp are a walk's own marks: as many, 1 exactly where the stamp stands, and a stamp set is a mark set. Where no mark is as high as the stamp,
-- none is set; and stamps of 1 are the marks themselves.
use mathlib.Core.Bool.{Bool, true, false, not, cond}
use mathlib.Core.Logic.{◌≢◌}
use mathlib.Core.Path.{◌≡◌, refl, sym, ap, ◌∙◌}
use mathlib.Core.List.{List, [], ◌∷◌}
use Prim.Native.Nat.{ℕ, zero, suc, ◌+◌, ◌≤◌, ◌<◌}
use native.Mathlib.Omega.{arith}
use lib.Dec.{eqb}
use lib.ListN.{length, get_or, set, replicate}
use borrow.Author.Tests.{eq-eqb, ne_eqb, le-leb, lt-leb}
use Rattle.lineage.specs.Numbers.{num_at}
use Rattle.lineage.specs.Walk.{Net}
use Rattle.ask_walk.specs.Fit.{skips, Marks}
use Rattle.ask_walk.specs.Stamps.{seen_as, Under}

pub seen_long : (s : ℕ) (m : List ℕ) → length (seen_as s m) ≡ length m
unfolding seen_as
seen_long s [] = refl
seen_long s (b ∷ m) = ap suc (seen_long s m)

pub seen_kept : (s : ℕ) (m m₀ : List ℕ) → length (seen_as s m) ≡ length (seen_as s m₀) → length m ≡ length m₀
seen_kept s m m₀ e = sym (seen_long s m) ∙ e ∙ seen_long s m₀

pub seen_at : (s : ℕ) (m : List ℕ) (i : ℕ) → i < length m → get_or (seen_as s m) i 0 ≡ cond (eqb (get_or m i 0) s) 1 0
unfolding seen_as
seen_at s [] i h = absurd (omega arith)
seen_at s (b ∷ m) zero h = refl
seen_at s (b ∷ m) (suc i) h = seen_at s m i (omega arith)

module _ (s : ℕ) (m : List ℕ) (i : ℕ) (h : i < length m) where
  -- the stamp stands there, or does not
  pub seen_same : get_or m i 0 ≡ s → get_or (seen_as s m) i 0 ≡ 1
  seen_same e = rw (seen_at s m i h, eq-eqb _ _ e) refl

  pub seen_other : get_or m i 0 ≢ s → get_or (seen_as s m) i 0 ≢ 1
  seen_other n z = let zero_there : get_or (seen_as s m) i 0 ≡ 0 = rw (seen_at s m i h, ne_eqb _ _ n) refl in omega (arith, zero_there)

  pub seen_not : get_or (seen_as s m) i 0 ≢ 1 → get_or m i 0 ≢ s
  seen_not n e = n (seen_same e)

bit : (b : Bool) → eqb (cond b 1 0) 1 ≡ b
bit true = refl
bit false = refl

pub seen_test : (s : ℕ) (m : List ℕ) (i : ℕ) → i < length m → eqb (get_or (seen_as s m) i 0) 1 ≡ eqb (get_or m i 0) s
seen_test s m i h = rw (seen_at s m i h) (bit (eqb (get_or m i 0) s))

-- opening stamps
pub seen_set : (s : ℕ) (m : List ℕ) (i : ℕ) → seen_as s (set m i s) ≡ set (seen_as s m) i 1
unfolding seen_as
seen_set s [] i = refl
seen_set s (b ∷ m) zero = rw (eq-eqb s s refl) refl
seen_set s (b ∷ m) (suc i) = ap (cond (eqb b s) 1 0 ∷◌) (seen_set s m i)

set_low : (s : ℕ) (m : List ℕ) (i : ℕ) → ((j : ℕ) → get_or m j 0 < s + 1) → (j : ℕ) → get_or (set m i s) j 0 < s + 1
set_low s [] i low j = low j
set_low s (b ∷ m) zero low zero = omega arith
set_low s (b ∷ m) zero low (suc j) = low (suc j)
set_low s (b ∷ m) (suc i) low zero = low 0
set_low s (b ∷ m) (suc i) low (suc j) = set_low s m i (λ k. low (suc k)) j

pub under_set : (s : ℕ) (m : List ℕ) (i : ℕ) → Under (s + 1) m → Under (s + 1) (set m i s)
under_set s m i U = record { each = set_low s m i U.each }

pub under_more : (a s : ℕ) (m : List ℕ) → a ≤ s → Under a m → Under s m
under_more a s m h U = record { each = λ i. omega (arith, U.each i) }

-- a stamp above all marks is not seen
new : (s : ℕ) (m : List ℕ) → ((i : ℕ) → get_or m i 0 < s) → seen_as s m ≡ replicate (length m) 0
unfolding seen_as
new s [] low = refl
new s (b ∷ m) low = let free : b ≢ s = λ e. omega (arith, e, low 0) in rw (ne_eqb b s free, new s m (λ i. low (suc i))) refl

zero_at : (n i : ℕ) → ◌≡◌ {A = ℕ} (get_or (replicate n 0) i 0) 0
zero_at zero i = refl
zero_at (suc n) zero = refl
zero_at (suc n) (suc i) = zero_at n i

module _ (s : ℕ) (m : List ℕ) (U : Under s m) where
  pub seen_new : seen_as s m ≡ replicate (length m) 0
  seen_new = new s m U.each

  pub new_free : (i : ℕ) → get_or m i 0 ≢ s
  new_free i e = omega (arith, e, U.each i)

  pub new_marks : (N : Net) (k : ℕ) → Marks N k s m
  new_marks N k = record {
    under = under_more s (s + 1) m (omega arith) U;
    safe = record { each = λ p b y. rw (seen_new, zero_at (length m) (N.spot p)) refl };
  }

-- marks that are all 0
pub zero_under : (s n : ℕ) (m : List ℕ) → 0 < s → m ≡ replicate n 0 → Under s m
zero_under s n m h e = rw e (record { each = λ i. omega (arith, zero_at n i) })

-- stamps of 1 are the marks themselves
own : (m : List ℕ) → ((i : ℕ) → get_or m i 0 < 2) → seen_as 1 m ≡ m
unfolding seen_as
own [] low = refl
own (b ∷ m) low = at b (low 0) (own m (λ i. low (suc i)))
  where
    at : (b : ℕ) → b < 2 → seen_as 1 m ≡ m → (cond (eqb b 1) 1 0 ∷ seen_as 1 m) ≡ b ∷ m
    at zero h ih = ap (0 ∷◌) ih
    at (suc zero) h ih = ap (1 ∷◌) ih
    at (suc (suc b)) h ih = absurd (omega arith)

pub seen_own : (m : List ℕ) → Under 2 m → seen_as 1 m ≡ m
seen_own m U = own m U.each

-- whether a child is passed over, from what was read of it
module _ (w t : ℕ) (groups levels : List ℕ) where
  pub skips_mark :
      (m : List ℕ) (s h a b : ℕ) → a ≡ num_at w levels h → b ≡ num_at w levels t → b < a
      → (name : ℕ) → name ≡ num_at w groups h → num_at w groups h < length m → eqb (get_or m name 0) s ≡ skips w t groups levels (seen_as s m) h
  skips_mark m s h a b e f l name i low = rw (← e, ← f, lt-leb a b l, i) (sym (seen_test s m (num_at w groups h) low))
