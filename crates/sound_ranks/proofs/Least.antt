-- The least of a number and a list's values, gone through from the first on: the least so far and what is ahead have the least of all between them.
use mathlib.Core.Path.{◌≡◌, sym, ap, ◌∙◌}
use mathlib.Core.List.{List, ◌∷◌, map}
use Prim.Native.Nat.{ℕ, suc, ◌+◌, ◌≤◌, ◌<◌, min}
use native.Mathlib.Numerals.{add-one}
use lib.ListN.{length, get_or, drop, drop_of_length-le}
use lib.Seq.{drop-cons}
use Rattle.lineage.specs.Lists.{least}

-- i of the list are passed, and `yet` is the least of the number and their values
pub record Least (a : ℕ) (f : ℕ → ℕ) (xs : List ℕ) (i yet : ℕ) : Type 0 where
  pub both : least yet (map f (drop i xs)) ≡ least a (map f xs)

pub least_none : {a b : ℕ} (f : ℕ → ℕ) (xs : List ℕ) → b ≡ a → Least a f xs 0 b
least_none f xs e = record { both = rw e }

module _ {a : ℕ} {f : ℕ → ℕ} {xs : List ℕ} {i yet : ℕ} (M : Least a f xs i yet) where
  pub least_more : {x y b : ℕ} → i < length xs → x ≡ get_or xs i 0 → y ≡ f x → b ≡ min yet y → Least a f xs (i + 1) b
  least_more {x} {y} {b} h e ey eb =
      let ahead : drop i xs ≡ x ∷ drop (i + 1) xs =
      rw (add-one i) (drop-cons xs i 0 h ∙ ap (λ (z : ℕ). z ∷ drop (suc i) xs) (sym e)) in
      record { both = rw (eb, ey) (rw ahead at M.both) }

  pub least_all : length xs ≤ i → yet ≡ least a (map f xs)
  least_all h = rw (drop_of_length-le xs h) at M.both
