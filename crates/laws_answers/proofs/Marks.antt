-- Marks and opened groups say the same: with each group of a list marked at a spot of its own, a byte is 1 if it is the spot of such a group and
-- as it was otherwise, a group is marked if it is in the list, and the marks gained are as many as the groups. By induction on the list, since
-- a mark set at one spot changes no other.
use mathlib.Core.Bool.{Bool, true, false, ◌||◌, cond}
use mathlib.Core.Path.{◌≡◌, refl, ap, ◌∙◌}
use mathlib.Core.List.{List, [], ◌∷◌, map}
use Prim.Native.Nat.{ℕ, zero, suc, ◌<◌, ◌+◌}
use native.Mathlib.Omega.{arith}
use lib.Dec.{eqb}
use lib.ListN.{length, get_or, set, replicate, length-set}
use lib.Seq.{get_or-set_same, get_or-set_other}
use borrow.Author.Tests.{eqb-true, eqb-false, eq-eqb, ne_eqb}
use Rattle.lineage.specs.Lists.{among, ones}
use Rattle.laws.proofs.Lists.{here, there, in_map, of_map}
use Rattle.laws.proofs.Positions.{ones_set}
use Rattle.laws.specs.Rising.{Distinct}
use Rattle.laws_answers.specs.Walks.{◌∈◌}

-- m with a mark for each group of o
abbrev pub painted : (ℕ → ℕ) → List ℕ → List ℕ → List ℕ
painted spot [] m = m
painted spot (g ∷ o) m = set (painted spot o m) (spot g) 1

-- no mark lengthens them
pub painted_long : (spot : ℕ → ℕ) (o m : List ℕ) → length (painted spot o m) ≡ length m
painted_long spot [] m = refl
painted_long spot (g ∷ o) m = length-set (painted spot o m) (spot g) 1 ∙ painted_long spot o m

-- no mark is left where all bytes are 0
pub ones_none : (n : ℕ) → ones (replicate n 0) ≡ 0
ones_none zero = refl
ones_none (suc n) = omega (arith, ones_none n)

module _ (spot : ℕ → ℕ) (m : List ℕ) where
  -- a byte is 1 if it is the spot of a marked group, and as it was otherwise
  pub painted_at : (o : List ℕ) → ((g : ℕ) → g ∈ o → spot g < length m) → (i : ℕ) → get_or (painted spot o m) i 0 ≡ cond (among i (map spot o)) 1 (get_or m i 0)
  painted_at [] fits i = refl
  painted_at (g ∷ o) fits i = at (eqb i (spot g)) refl (painted_at o (λ q j. fits q (there q g o j)) i)
    where
      at : (b : Bool) → eqb i (spot g) ≡ b → get_or (painted spot o m) i 0 ≡ cond (among i (map spot o)) 1 (get_or m i 0) → get_or (painted spot (g ∷ o) m) i 0 ≡ cond (b || among i (map spot o)) 1 (get_or m i 0)
      at true e ih = rw (eqb-true i (spot g) e, get_or-set_same (painted spot o m) (spot g) 1 0 (rw (painted_long spot o m) (fits g (here g o))))
      at false e ih = rw (get_or-set_other (painted spot o m) (spot g) i 1 0 (eqb-false i (spot g) e)) ih

  -- more groups, more marks
  pub painted_more :
      (o₁ o₂ : List ℕ) → ((g : ℕ) → g ∈ o₁ → spot g < length m) → ((g : ℕ) → g ∈ o₂ → g ∈ o₁)
      → (i : ℕ) → get_or (painted spot o₂ m) i 0 ≡ 1 → get_or (painted spot o₁ m) i 0 ≡ 1
  painted_more o₁ o₂ fits up i h = rw (painted_at o₁ fits i) (at (among i (map spot o₂)) refl (rw (painted_at o₂ (λ g j. fits g (up g j)) i) at h))
    where
      at : (b : Bool) → among i (map spot o₂) ≡ b → cond b 1 (get_or m i 0) ≡ 1 → cond (among i (map spot o₁)) 1 (get_or m i 0) ≡ 1
      at true e z = let (g, j, s) = of_map spot i o₂ e in rw (s, in_map spot g o₁ (up g j))
      at false e z = kept (among i (map spot o₁))
        where
          kept : (b : Bool) → cond b 1 (get_or m i 0) ≡ 1
          kept true = refl
          kept false = z

-- each group has a spot of its own, not marked in m
pub record Spots (spot : ℕ → ℕ) (k : ℕ) (m : List ℕ) : Type 0 where
  pub fits : (g : ℕ) → g < k → spot g < length m
  pub apart : (g h : ℕ) → g < k → h < k → spot g ≡ spot h → g ≡ h
  pub clear : (g : ℕ) → g < k → get_or m (spot g) 0 ≡ 0

module _ {spot : ℕ → ℕ} {k : ℕ} {m : List ℕ} (S : Spots spot k m) where
  same_spot : (g h : ℕ) → g < k → h < k → eqb (spot g) (spot h) ≡ eqb g h
  same_spot g h a b = at (eqb g h) refl
    where
      at : (e : Bool) → eqb g h ≡ e → eqb (spot g) (spot h) ≡ e
      at true e = eq-eqb (spot g) (spot h) (ap spot (eqb-true g h e))
      at false e = ne_eqb (spot g) (spot h) (λ s. eqb-false g h e (S.apart g h a b s))

  among_spots : (g : ℕ) → g < k → (o : List ℕ) → ((h : ℕ) → h ∈ o → h < k) → among (spot g) (map spot o) ≡ among g o
  among_spots g a [] low = refl
  among_spots g a (h ∷ o) low = rw (same_spot g h a (low h (here h o)), among_spots g a o (λ q i. low q (there q h o i)))

  -- a group is marked if it is in the list
  pub marked_is : (g : ℕ) → g < k → (o : List ℕ) → ((h : ℕ) → h ∈ o → h < k) → eqb (get_or (painted spot o m) (spot g) 0) 1 ≡ among g o
  marked_is g a o low =
      rw (painted_at spot m o (λ h i. S.fits h (low h i)) (spot g), among_spots g a o low, S.clear g a) (at (among g o))
    where
      at : (b : Bool) → eqb (cond b 1 0) 1 ≡ b
      at true = refl
      at false = refl

  -- as many marks as groups
  pub ones_painted : (o : List ℕ) → Distinct o → ((h : ℕ) → h ∈ o → h < k) → ones (painted spot o m) ≡ ones m + length o
  ones_painted [] once low = omega arith
  ones_painted (g ∷ o) once low =
      let rest : (h : ℕ) → h ∈ o → h < k = λ h i. low h (there h g o i) in
      let a : g < k = low g (here g o) in
      omega (
        arith,
        ones_painted o once.1 rest,
        ones_set (painted spot o m) (spot g) (rw (painted_long spot o m) (S.fits g a)) (marked_is g a o rest ∙ once.0),
      )
