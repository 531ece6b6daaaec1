-- Where a number stands in a list, the least and the greatest of a list, and a mark more. Each is an induction on the list, with a case for how the test of the head
-- comes out.
use mathlib.Core.Bool.{Bool, true, false, not, false≢true}
use mathlib.Core.Logic.{◌⊎◌, inl, inr}
use mathlib.Core.Path.{◌≡◌, refl, sym, ap, ◌∙◌}
use mathlib.Core.List.{List, [], ◌∷◌, ◌++◌, map, append-nil}
use Prim.Native.Nat.{ℕ, zero, suc, ◌+◌, min, ◌<◌, ◌≤◌}
use native.Mathlib.Nat.{not-suc-le-zero}
use native.Mathlib.Decide.{dec_le}
use native.Mathlib.Omega.{arith}
use lib.Dec.{eqb}
use lib.ListN.{length, get_or, set}
use borrow.Author.Tests.{eqb-true, eq-eqb}
use Rattle.lineage.specs.Lists.{any, among, position, least, greatest, ones}
use Rattle.laws.proofs.Tests.{or_false_left, or_false_right}
use Rattle.laws.proofs.Lists.{here, here_at, there, in_cons, in_append, in_map}

-- where a number stands in a joined list
pub position_past : (q : ℕ) (a b : List ℕ) → among q a ≡ false → position q (a ++ b) ≡ length a + position q b
position_past q [] b h = omega arith
position_past q (x ∷ a) b h =
    rw (or_false_left (eqb q x) _ h, position) (omega (arith, position_past q a b (or_false_right (eqb q x) _ h)))

pub position_in : (q : ℕ) (a b : List ℕ) → among q a ≡ true → position q (a ++ b) < length a
position_in q [] b h = absurd (false≢true h)
position_in q (x ∷ a) b h = at (eqb q x) refl (position_in q a b)
  where
    at : (t : Bool) → eqb q x ≡ t → (among q a ≡ true → position q (a ++ b) < length a) → position q (x ∷ (a ++ b)) < suc (length a)
    at true e ih = rw (e, position) (omega arith)
    at false e ih = rw (e, position) (omega (arith, ih (rw e at h)))

pub position_left : (x : ℕ) (a b : List ℕ) → among x a ≡ true → position x (a ++ b) ≡ position x a
position_left x [] b i = absurd (false≢true i)
position_left x (y ∷ a) b i = at (eqb x y) refl (position_left x a b)
  where
    at : (t : Bool) → eqb x y ≡ t → (among x a ≡ true → position x (a ++ b) ≡ position x a) → position x (y ∷ (a ++ b)) ≡ position x (y ∷ a)
    at true e ih = rw (e, position)
    at false e ih = rw (e, position) (ap suc (ih (rw e at i)))

-- a place in the first list is that of one of its members, a later one that of a member of the second
pub position_low_in : (q : ℕ) (a b : List ℕ) → position q (a ++ b) < length a → among q a ≡ true
position_low_in q a b h = at (among q a) refl
  where
    at : (t : Bool) → among q a ≡ t → among q a ≡ true
    at true e = e
    at false e = absurd (omega (arith, position_past q a b e))

pub position_high_in : (q : ℕ) (a b : List ℕ) → among q (a ++ b) ≡ true → length a ≤ position q (a ++ b) → among q b ≡ true
position_high_in q a b i h = elim (in_append q a b i) [ inl j ↦ absurd (omega (arith, position_in q a b j)) | inr j ↦ j ]

-- what does not stand in the list has the list's length for its place
pub position_none : (q : ℕ) (a : List ℕ) → among q a ≡ false → position q a ≡ length a
position_none q a h = let past : position q a ≡ length a + 0 = rw (append-nil a) at (position_past q a [] h) in omega arith

-- a member stands at its position
pub position_low : (x : ℕ) (xs : List ℕ) → among x xs ≡ true → position x xs < length xs
position_low x xs h = rw (append-nil xs) at (position_in x xs [] h)

pub at_position : (x : ℕ) (xs : List ℕ) → among x xs ≡ true → get_or xs (position x xs) 0 ≡ x
at_position x [] h = absurd (false≢true h)
at_position x (y ∷ xs) h = at (eqb x y) refl (at_position x xs)
  where
    at : (t : Bool) → eqb x y ≡ t → (among x xs ≡ true → get_or xs (position x xs) 0 ≡ x) → get_or (y ∷ xs) (position x (y ∷ xs)) 0 ≡ x
    at true e ih = rw (e, position) (sym (eqb-true x y e))
    at false e ih = rw (e, position) (ih (rw e at h))

-- a number first stands no later than where it stands
pub position_most : (xs : List ℕ) (i : ℕ) → i < length xs → position (get_or xs i 0) xs ≤ i
position_most [] i h = absurd (not-suc-le-zero h)
position_most (x ∷ xs) zero h = rw (eq-eqb x x refl, position) (omega arith)
position_most (x ∷ xs) (suc i) h = at (eqb (get_or xs i 0) x) refl (position_most xs i (omega arith))
  where
    at : (t : Bool) → eqb (get_or xs i 0) x ≡ t → position (get_or xs i 0) xs ≤ i → position (get_or xs i 0) (x ∷ xs) ≤ suc i
    at true e ih = rw (e, position) (omega arith)
    at false e ih = rw (e, position) (omega arith)

pub in_get_d : (xs : List ℕ) (i : ℕ) → i < length xs → among (get_or xs i 0) xs ≡ true
in_get_d [] i h = absurd (not-suc-le-zero h)
in_get_d (x ∷ xs) zero h = here x xs
in_get_d (x ∷ xs) (suc i) h = there (get_or xs i 0) x xs (in_get_d xs i (omega arith))

-- the least of a list is not above any of its numbers, and is the first or one of them
pub least_first : (a : ℕ) (xs : List ℕ) → least a xs ≤ a
least_first a [] = omega arith
least_first a (x ∷ xs) = omega (arith, least_first (min a x) xs)

pub least_among : (a u : ℕ) (xs : List ℕ) → among u xs ≡ true → least a xs ≤ u
least_among a u [] i = absurd (false≢true i)
least_among a u (x ∷ xs) i = elim (in_cons u x xs i) [ inl e ↦ omega (arith, least_first (min a x) xs) | inr j ↦ least_among (min a x) u xs j ]

pub least_is : (a : ℕ) (xs : List ℕ) → (least a xs ≡ a) ⊎ (among (least a xs) xs ≡ true)
least_is a [] = inl refl
least_is a (x ∷ xs) = at (dec_le a x) (least_is (min a x) xs)
  where
    at : Dec (a ≤ x) → (least (min a x) xs ≡ min a x) ⊎ (among (least (min a x) xs) xs ≡ true) → (least (min a x) xs ≡ a) ⊎ (among (least (min a x) xs) (x ∷ xs) ≡ true)
    at d (inr i) = inr (there (least (min a x) xs) x xs i)
    at (yes l) (inl e) = inl (omega arith)
    at (no l) (inl e) = let z : least (min a x) xs ≡ x = omega arith in inr (here_at _ x xs z)

-- the least of a list's values
pub least_below : (f : ℕ → ℕ) (a : ℕ) (xs : List ℕ) → least a (map f xs) ≤ a
least_below f a xs = least_first a (map f xs)

pub least_at : (f : ℕ → ℕ) (a q : ℕ) (xs : List ℕ) → among q xs ≡ true → least a (map f xs) ≤ f q
least_at f a q xs h = least_among a (f q) (map f xs) (in_map f q xs h)

pub least_above : (f : ℕ → ℕ) (a b : ℕ) (xs : List ℕ) → b ≤ a → ((q : ℕ) → among q xs ≡ true → b ≤ f q) → b ≤ least a (map f xs)
least_above f a b [] h all = h
least_above f a b (x ∷ xs) h all =
    least_above f (min a (f x)) b xs (omega (arith, all x (here x xs))) (λ q i. all q (there q x xs i))

-- and of lists with the same members
pub least_same :
    (f : ℕ → ℕ) (a : ℕ) (xs ys : List ℕ) → ((q : ℕ) → among q xs ≡ true → among q ys ≡ true) → ((q : ℕ) → among q ys ≡ true → among q xs ≡ true)
    → least a (map f xs) ≡ least a (map f ys)
least_same f a xs ys to from =
    omega (
      arith,
      least_above f a (least a (map f xs)) ys (least_below f a xs) (λ q i. least_at f a q xs (from q i)),
      least_above f a (least a (map f ys)) xs (least_below f a ys) (λ q i. least_at f a q ys (to q i)),
    )

-- the least, and another number
pub least_min : (a b : ℕ) (xs : List ℕ) → min (least a xs) b ≡ least (min a b) xs
least_min a b [] = refl
least_min a b (x ∷ xs) = let turned : min (min a x) b ≡ min (min a b) x = omega arith in least_min (min a x) b xs ∙ ap (λ z. least z xs) turned

-- the greatest of a list's values
pub greatest_at : (f : ℕ → ℕ) (q : ℕ) (xs : List ℕ) → among q xs ≡ true → f q ≤ greatest (map f xs)
greatest_at f q [] i = absurd (false≢true i)
greatest_at f q (x ∷ xs) i =
    elim (in_cons q x xs i) [
      | inl e ↦ omega (arith, ap f e)
      | inr j ↦ omega (arith, greatest_at f q xs j)
    ]

pub greatest_most : (f : ℕ → ℕ) (m : ℕ) (xs : List ℕ) → ((q : ℕ) → f q ≤ m) → greatest (map f xs) ≤ m
greatest_most f m [] all = omega arith
greatest_most f m (x ∷ xs) all = omega (arith, all x, greatest_most f m xs all)

-- and of its numbers
pub greatest_in : (xs : List ℕ) (i : ℕ) → i < length xs → get_or xs i 0 ≤ greatest xs
greatest_in [] i h = absurd (not-suc-le-zero h)
greatest_in (x ∷ xs) zero h = omega arith
greatest_in (x ∷ xs) (suc i) h = omega (arith, greatest_in xs i (omega arith))

-- a mark more
pub ones_set : (m : List ℕ) (i : ℕ) → i < length m → eqb (get_or m i 0) 1 ≡ false → ones (set m i 1) ≡ suc (ones m)
ones_set [] i h f = absurd (omega arith)
ones_set (x ∷ xs) zero h f = rw f (omega arith)
ones_set (x ∷ xs) (suc i) h f = omega (arith, ones_set xs i (omega arith) f)
