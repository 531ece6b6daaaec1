-- The first of a row that passes a test, as it is found.
use mathlib.Core.Bool.{Bool, true, false, cond, ◌||◌}
use mathlib.Core.Path.{◌≡◌, refl}
use mathlib.Core.List.{List, [], ◌∷◌}
use Prim.Native.Nat.{ℕ}
use Rattle.std.specs.List.{find}
use Rattle.std.specs.Option.{unwrap_or}
use Rattle.std.specs.Prelude.{Some, is_some}
use Rattle.lineage.specs.Lists.{any, first_of}

module _ (p : ℕ → Bool) where
  -- one passes exactly where one is found
  pub any_found : (xs : List ℕ) → any p xs ≡ is_some (find p xs)
  any_found [] = refl
  any_found (x ∷ xs) = at (p x) (any_found xs)
    where
      at : (b : Bool) → any p xs ≡ is_some (find p xs) → (b || any p xs) ≡ is_some (cond b (Some x) (find p xs))
      at true ih = refl
      at false ih = ih

  -- the first, or another number where none passes
  pub first_found : (xs : List ℕ) (other : ℕ) → first_of p xs other ≡ unwrap_or (find p xs) other
  first_found [] other = refl
  first_found (x ∷ xs) other = at (p x) (first_found xs other)
    where
      at : (b : Bool) → first_of p xs other ≡ unwrap_or (find p xs) other
          → (elim b [ true ↦ x | false ↦ first_of p xs other ]) ≡ unwrap_or (cond b (Some x) (find p xs)) other
      at true ih = refl
      at false ih = ih
