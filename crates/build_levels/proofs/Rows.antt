-- Going through a row of places: the greatest of one more than their levels, one place more at a time.
use mathlib.Core.Path.{◌≡◌, ap}
use mathlib.Core.List.{List, ◌∷◌, map}
use Prim.Native.Nat.{ℕ, suc, ◌+◌, ◌≤◌, ◌<◌, max}
use native.Mathlib.Numerals.{add-one}
use native.Mathlib.Omega.{arith}
use lib.ListN.{length, get_or, drop, drop_of_length-le}
use lib.Seq.{drop-cons}
use Rattle.lineage.specs.Lists.{greatest}

-- the greatest of one more than the levels of places
abbrev climb : List ℕ → List ℕ → ℕ
climb levels places = greatest (map (λ q. suc (get_or levels q 0)) places)

-- the greatest of one more than the levels of the first i places, and of the rest
pub record Climbing (levels row : List ℕ) (i level : ℕ) : Type 0 where
  pub rest : max level (climb levels (drop i row)) ≡ climb levels row

pub climbing_none : (levels row : List ℕ) → Climbing levels row 0 0
climbing_none levels row = record { rest = omega arith }

module _ {levels row : List ℕ} {i level : ℕ} (l : Climbing levels row i level) where
  -- what is left begins with the place at hand
  next : i < length row → drop i row ≡ get_or row i 0 ∷ drop (i + 1) row
  next h = rw (add-one i) (drop-cons row i 0 h)

  pub climbing_more : {level' : ℕ} → i < length row → level' ≡ max level (get_or levels (get_or row i 0) 0 + 1) → Climbing levels row (i + 1) level'
  climbing_more h e = record { rest = omega (arith, l.rest, ap (climb levels) (next h)) }

  pub climbing_all : length row ≤ i → level ≡ climb levels row
  climbing_all h = omega (arith, l.rest, ap (climb levels) (drop_of_length-le row {i = i} h))
