-- What holds of each element of a list: of all, by its elements, what follows of each, of lists one after the other, of a mapped list and of a table.
use mathlib.Core.Bool.{true}
use mathlib.Core.Path.{◌≡◌}
use mathlib.Core.List.{List, [], ◌∷◌, ◌++◌, map}
use Prim.Native.Nat.{ℕ, zero, suc, ◌<◌}
use native.Mathlib.Omega.{arith}
use native.Mathlib.Nat.{not-suc-le-zero}
use lib.ListN.{length, get_or}
use Rattle.lineage.specs.Lists.{upto, among, joined, Every}
use Rattle.laws.proofs.Lists.{here, there, upto_low}

module _ {A : Type 0} (P : A → Type 0) where
  pub every_of : ((x : A) → P x) → (xs : List A) → Every P xs
  every_of each [] = tt
  every_of each (x ∷ xs) = (each x, every_of each xs)

  pub every_at : (xs : List A) (i : ℕ) (d : A) → Every P xs → i < length xs → P (get_or xs i d)
  every_at [] i d h l = absurd (not-suc-le-zero l)
  every_at (x ∷ xs) zero d h l = h.0
  every_at (x ∷ xs) (suc i) d h l = every_at xs i d h.1 (omega arith)

  pub every_from : (Q : A → Type 0) → ((x : A) → P x → Q x) → (xs : List A) → Every P xs → Every Q xs
  every_from Q each [] h = tt
  every_from Q each (x ∷ xs) h = (each x h.0, every_from Q each xs h.1)

  pub every_get_d : (d : A) (xs : List A) → ((i : ℕ) → i < length xs → P (get_or xs i d)) → Every P xs
  every_get_d d [] all = tt
  every_get_d d (x ∷ xs) all = (all 0 (omega arith), every_get_d d xs (λ i h. all (suc i) (omega arith)))

  pub every_append : (xs ys : List A) → Every P xs → Every P ys → Every P (xs ++ ys)
  every_append [] ys h k = k
  every_append (x ∷ xs) ys h k = (h.0, every_append xs ys h.1 k)

  pub every_joined : (xss : List (List A)) → Every (Every P) xss → Every P (joined xss)
  every_joined [] h = tt
  every_joined (xs ∷ xss) h = every_append xs (joined xss) h.0 (every_joined xss h.1)

  -- of f of each member, of f of each number below n
  pub every_mapped : (f : ℕ → A) (xs : List ℕ) → ((x : ℕ) → among x xs ≡ true → P (f x)) → Every P (map f xs)
  every_mapped f [] all = tt
  every_mapped f (x ∷ xs) all = (all x (here x xs), every_mapped f xs (λ y i. all y (there y x xs i)))

  pub every_table : (f : ℕ → A) (n : ℕ) → ((i : ℕ) → i < n → P (f i)) → Every P (map f (upto n))
  every_table f n all = every_mapped f (upto n) (λ x i. all x (upto_low n x i))
