-- What is new in a list: each number that is not among the seen, once.
use mathlib.Core.Bool.{Bool, true, false, not, ◌&&◌, ◌||◌, and-false}
use mathlib.Core.Path.{◌≡◌, refl, ap, ◌∙◌}
use mathlib.Core.List.{List, [], ◌∷◌}
use Prim.Native.Nat.{ℕ}
use native.Mathlib.Decide.{ℕ_discrete}
use lib.Dec.{eqb}
use borrow.Author.Tests.{eq-eqb, ne_eqb}
use Rattle.lineage.specs.Lists.{among}
use Rattle.laws.specs.Rising.{Distinct}
use Rattle.build_rows.specs.Rows.{new_ones}

-- an entry is passed over, or kept
module _ (seen : List ℕ) (x : ℕ) (xs : List ℕ) where
  pub new_drop : among x seen ≡ true → new_ones seen (x ∷ xs) ≡ new_ones seen xs
  new_drop h = rw (h, new_ones)

  pub new_keep : among x seen ≡ false → new_ones seen (x ∷ xs) ≡ x ∷ new_ones (x ∷ seen) xs
  new_keep h = rw (h, new_ones)

-- an entry tells nothing new of what was seen
module _ (seen : List ℕ) (x : ℕ) (xs : List ℕ) (y : ℕ) where
  among_dropped : among x seen ≡ true → Dec (y ≡ x) → (among y xs && not (among y seen)) ≡ (among y (x ∷ xs) && not (among y seen))
  among_dropped h (yes e) = rw (e, eq-eqb x x refl, h) (and-false (among x xs))
  among_dropped h (no e) = rw (ne_eqb y x e) refl

  among_kept : among x seen ≡ false → Dec (y ≡ x) → (eqb y x || (among y xs && not (among y (x ∷ seen)))) ≡ (among y (x ∷ xs) && not (among y seen))
  among_kept h (yes e) = rw (e, eq-eqb x x refl, h) refl
  among_kept h (no e) = rw (ne_eqb y x e) refl

pub new_among : (seen xs : List ℕ) (y : ℕ) → among y (new_ones seen xs) ≡ (among y xs && not (among y seen))
new_among seen [] y = refl
new_among seen (x ∷ xs) y = at (new_among seen xs y) (new_among (x ∷ seen) xs y) (among x seen) refl
  where
    at :
        among y (new_ones seen xs) ≡ (among y xs && not (among y seen)) → among y (new_ones (x ∷ seen) xs) ≡ (among y xs && not (among y (x ∷ seen))) → (t : Bool)
        → among x seen ≡ t → among y (new_ones seen (x ∷ xs)) ≡ (among y (x ∷ xs) && not (among y seen))
    at left more true h = ap (among y) (new_drop seen x xs h) ∙ left ∙ among_dropped seen x xs y h (ℕ_discrete y x)
    at left more false h = ap (among y) (new_keep seen x xs h) ∙ ap (eqb y x ||◌) more ∙ among_kept seen x xs y h (ℕ_discrete y x)

pub new_once : (seen xs : List ℕ) → Distinct (new_ones seen xs)
new_once seen [] = tt
new_once seen (x ∷ xs) = at (new_once seen xs) (new_once (x ∷ seen) xs) (among x seen) refl
  where
    at : Distinct (new_ones seen xs) → Distinct (new_ones (x ∷ seen) xs) → (t : Bool) → among x seen ≡ t → Distinct (new_ones seen (x ∷ xs))
    at left more true h = rw (new_drop seen x xs h) left
    at left more false h = rw (new_keep seen x xs h) (new_among (x ∷ seen) xs x ∙ rw (eq-eqb x x refl) (and-false (among x xs)), more)
