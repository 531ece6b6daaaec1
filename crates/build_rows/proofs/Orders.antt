-- An order lists every number below n once: a sum over it is the sum over 0, .. , n - 1. The argument takes the greatest number out, and goes on with the rest.
use mathlib.Core.Bool.{Bool, true, false, false≢true}
use mathlib.Core.Logic.{inl, inr}
use mathlib.Core.Path.{◌≡◌, refl, sym, ap}
use mathlib.Core.List.{List, [], ◌∷◌, ◌++◌}
use Prim.Native.Nat.{ℕ, zero, suc, ◌+◌, ◌<◌}
use native.Mathlib.Omega.{arith}
use lib.Dec.{eqb}
use lib.ListN.{length-append}
use borrow.Author.Tests.{eqb-true}
use Rattle.lineage.specs.Lists.{among, upto}
use Rattle.lineage.specs.Labels.{Order}
use Rattle.laws.proofs.Tests.{or_cases}
use Rattle.laws.specs.Rising.{Distinct}
use Rattle.laws.proofs.Lists.{in_append, in_left, in_right, in_upto, upto_low, length_upto}
use Rattle.laws.proofs.Rising.{rises_upto, rises_distinct, pigeonhole}

-- f of each number of the list, added up
abbrev pub total : (ℕ → ℕ) → List ℕ → ℕ
total f [] = 0
total f (x ∷ xs) = f x + total f xs

pub total_append : (f : ℕ → ℕ) (a b : List ℕ) → total f (a ++ b) ≡ total f a + total f b
total_append f [] b = omega arith
total_append f (x ∷ a) b = omega (arith, total_append f a b)

-- a list with x in it, and the same without it
record Split (x : ℕ) (xs : List ℕ) : Type 0 where
  ahead : List ℕ
  behind : List ℕ
  is : xs ≡ ahead ++ (x ∷ behind)

split : (x : ℕ) (xs : List ℕ) → among x xs ≡ true → Split x xs
split x [] h = absurd (false≢true h)
split x (y ∷ xs) h = at (eqb x y) refl (split x xs)
  where
    at : (t : Bool) → eqb x y ≡ t → (among x xs ≡ true → Split x xs) → Split x (y ∷ xs)
    at true e ih = record { ahead = []; behind = xs; is = ap (λ z. z ∷ xs) (sym (eqb-true x y e)) }
    at false e ih = let s = ih (rw e at h) in record { ahead = y ∷ s.ahead; behind = s.behind; is = ap (y ∷◌) s.is }

-- an order without its greatest number
order_without : (k : ℕ) (a b : List ℕ) → Order (suc k) (a ++ (k ∷ b)) → Order k (a ++ b)
order_without k a b o = record {
  long = omega (arith, o.long, length-append a (k ∷ b), length-append a b);
  all = λ v h. elim (in_append v a (k ∷ b) (o.all v (omega arith))) [
    | inl i ↦ in_left v a b i
    | inr i ↦ elim (or_cases (eqb v k) _ i) [ inl e ↦ absurd (omega (arith, eqb-true v k e)) | inr j ↦ in_right v a b j ]
  ];
}

-- a sum over an order
pub order_total : (f : ℕ → ℕ) (k : ℕ) (xs : List ℕ) → Order k xs → total f xs ≡ total f (upto k)
order_total f zero [] o = refl
order_total f zero (x ∷ xs) o = absurd (omega (arith, o.long))
order_total f (suc k) xs o =
    let s = split k xs (o.all k (omega arith)) in
    let a = s.ahead in
    let b = s.behind in
    let ih = order_total f k (a ++ b) (order_without k a b (rw s.is at o)) in
    omega (arith, ap (total f) s.is, total_append f a (k ∷ b), total_append f a b, total_append f (upto k) (k ∷ []), ih)

-- the numbers of an order are below n
pub order_low : (k : ℕ) (xs : List ℕ) → Order k xs → (v : ℕ) → among v xs ≡ true → v < k
order_low zero [] o v h = absurd (false≢true h)
order_low zero (x ∷ xs) o v h = absurd (omega (arith, o.long))
order_low (suc k) xs o v h =
    let s = split k xs (o.all k (omega arith)) in
    let a = s.ahead in
    let b = s.behind in
    let ih = order_low k (a ++ b) (order_without k a b (rw s.is at o)) v in
    elim (in_append v a (k ∷ b) (rw s.is at h)) [
      | inl i ↦ omega (arith, ih (in_left v a b i))
      | inr i ↦ elim (or_cases (eqb v k) _ i) [ inl e ↦ omega (arith, eqb-true v k e) | inr j ↦ omega (arith, ih (in_right v a b j)) ]
    ]

-- all numbers below n, and no other, each once
pub order_from : (n : ℕ) (xs : List ℕ) → Distinct xs → ((v : ℕ) → among v xs ≡ true → v < n) → ((v : ℕ) → v < n → among v xs ≡ true) → Order n xs
order_from n xs once low all = record {
  long =
      omega (
        arith,
        length_upto n,
        pigeonhole xs (upto n) once (λ v i. in_upto n v (low v i)),
        pigeonhole (upto n) xs (rises_distinct (upto n) (rises_upto n)) (λ v i. all v (upto_low n v i)),
      );
  all = all;
}
