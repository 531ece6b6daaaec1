-- Tests of some labelling, and the number of the first that passes, counted from 1.
use mathlib.Core.Bool.{Bool, true, false, cond, false≢true}
use mathlib.Core.Logic.{inl, inr}
use mathlib.Core.Path.{◌≡◌, refl}
use mathlib.Core.List.{List, [], ◌∷◌}
use Prim.Native.Nat.{ℕ, zero, suc, ◌+◌, ◌<◌}
use native.Mathlib.Omega.{arith}
use lib.ListN.{get_or}
use Rattle.lineage.specs.Labels.{Labelling}
use Rattle.lineage.specs.Question.{some_labelling, first_from, first_labelling}
use Rattle.laws.proofs.Tests.{or_left, or_right, or_cases, clash, is_false}
use Rattle.laws_answers.specs.Answers.{Member, front, behind, First}

-- where some labelling passes, there is one that does
pub some_is : (p : Labelling → Bool) (ls : List Labelling) → some_labelling p ls ≡ true → (l : Labelling) × Member l ls × (p l ≡ true)
some_is p [] h = absurd (false≢true h)
some_is p (l ∷ ls) h = elim (or_cases (p l) _ h) [ inl e ↦ (l, front, e) | inr i ↦ let (l', m, e) = some_is p ls i in (l', behind m, e) ]

-- one that passes is enough
pub is_some : (p : Labelling → Bool) {l : Labelling} {ls : List Labelling} → Member l ls → p l ≡ true → some_labelling p ls ≡ true
is_some p front e = or_left _ e
is_some p (behind {b = b} m) e = or_right (p b) (is_some p m e)

-- where each fails, none passes
pub none_is : (p : Labelling → Bool) (ls : List Labelling) → ((l : Labelling) → Member l ls → p l ≡ false) → some_labelling p ls ≡ false
none_is p ls none = is_false _ (λ h. let (l, m, e) = some_is p ls h in clash e (none l m))

-- more labellings pass more tests
pub some_more : (p : Labelling → Bool) (ls₁ ls₂ : List Labelling) → ((l : Labelling) → Member l ls₁ → Member l ls₂) → some_labelling p ls₁ ≡ true → some_labelling p ls₂ ≡ true
some_more p ls₁ ls₂ up h = let (l, m, e) = some_is p ls₁ h in is_some p (up l m) e

module _ (p : Labelling → Bool) where
  later : {l : Labelling} {ls : List Labelling} {i : ℕ} → p l ≡ false → First p ls i → First p (l ∷ ls) (suc i)
  later {l} {ls} {i} e F = record { within = omega (arith, F.within); passes = F.passes; none_before = before }
    where
      before : (d : Labelling) (j : ℕ) → j < suc i → p (get_or (l ∷ ls) j d) ≡ false
      before d zero b = e
      before d (suc j) b = F.none_before d j (omega arith)

  first_from_lem : (n : ℕ) (ls : List Labelling) → some_labelling p ls ≡ true → (i : ℕ) × (first_from n p ls ≡ n + i) × First p ls i
  first_from_lem n [] h = absurd (false≢true h)
  first_from_lem n (l ∷ ls) h = at (p l) refl (first_from_lem (suc n) ls)
    where
      at :
          (b : Bool) → p l ≡ b → (some_labelling p ls ≡ true → (i : ℕ) × (first_from (suc n) p ls ≡ suc n + i) × First p ls i)
          → (i : ℕ) × (cond b n (first_from (suc n) p ls) ≡ n + i) × First p (l ∷ ls) i
      at true e ih = (0, omega arith, record { within = omega arith; passes = λ d. e; none_before = λ d j b. absurd (omega arith) })
      at false e ih = let (i, f, F) = ih (rw e at h) in (suc i, omega (arith, f), later e F)

  -- the number given is that of the first that passes
  pub first_is : (ls : List Labelling) → some_labelling p ls ≡ true → (i : ℕ) × (first_labelling p ls ≡ suc i) × First p ls i
  first_is ls h = let (i, e, F) = first_from_lem 1 ls h in (i, omega (arith, e), F)
