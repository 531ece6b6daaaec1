-- The greatest of a list's values, gone through from the first on: the greatest so far and what is ahead have the greatest of all between them.
use mathlib.Core.Path.{◌≡◌, sym, ap, ◌∙◌}
use mathlib.Core.List.{List, ◌∷◌, map}
use Prim.Native.Nat.{ℕ, suc, ◌+◌, ◌≤◌, ◌<◌, max}
use native.Mathlib.Omega.{arith}
use native.Mathlib.Numerals.{add-one}
use lib.ListN.{length, get_or, drop, drop_of_length-le}
use lib.Seq.{drop-cons}
use Rattle.lineage.specs.Lists.{greatest}

-- i of the list are passed, and `most` is the greatest of their values
pub record Greatest (f : ℕ → ℕ) (xs : List ℕ) (i most : ℕ) : Type 0 where
  pub both : max most (greatest (map f (drop i xs))) ≡ greatest (map f xs)

module _ {f : ℕ → ℕ} {xs : List ℕ} {i most : ℕ} (G : Greatest f xs i most) where
  pub greatest_more : {x a b : ℕ} → i < length xs → x ≡ get_or xs i 0 → a ≡ f x → b ≡ max most a → Greatest f xs (i + 1) b
  greatest_more {x} {a} {b} h e ea eb =
      let ahead : drop i xs ≡ x ∷ drop (i + 1) xs =
      rw (add-one i) (drop-cons xs i 0 h ∙ ap (λ (y : ℕ). y ∷ drop (suc i) xs) (sym e)) in
      record { both = omega (arith, rw ahead at G.both) }

  pub greatest_all : length xs ≤ i → most ≡ greatest (map f xs)
  greatest_all h = omega (arith, rw (drop_of_length-le xs h) at G.both)
