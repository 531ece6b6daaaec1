-- Lists without repeats, rising lists, and counting. A rising list is told by its members, and has no repeats; a filter of a rising list rises. A list
-- without repeats is no longer than one that holds all its members, so n numbers below n without repeats are all of them.
use mathlib.Core.Bool.{Bool, true, false, not, false≢true}
use mathlib.Core.Logic.{◌⊎◌, inl, inr}
use mathlib.Core.Path.{◌≡◌, refl, ap, ap₂, subst, sym}
use mathlib.Core.List.{List, [], ◌∷◌, ◌++◌}
use Prim.Native.Nat.{ℕ, zero, suc, ◌+◌, ◌-◌, ◌<◌, ◌≤◌}
use native.Mathlib.Nat.{not-suc-le-zero}
use native.Mathlib.Omega.{arith}
use lib.Dec.{eqb}
use lib.ListN.{length, get_or}
use borrow.Author.Tests.{eq-eqb, ne_eqb}
use Rattle.lineage.specs.Lists.{upto, among, those, first_of, position}
use Rattle.laws.specs.Rising.{Distinct, Rises}
use Rattle.laws.proofs.Tests.{clash, is_false}
use Rattle.laws.proofs.Lists.{among_append, here, there, in_cons, in_one, in_left, in_right, in_append, Kept, those_yes, those_no, those_pass, those_keep, those_all, those_split, in_upto, upto_low, length_upto}
use Rattle.laws.proofs.Positions.{position_low, at_position, in_get_d}

-- joined lists without repeats, where they share no number, and the way back
pub distinct_append : (a b : List ℕ) → Distinct a → Distinct b → ((x : ℕ) → among x a ≡ true → among x b ≡ false) → Distinct (a ++ b)
distinct_append [] b da db apart = db
distinct_append (x ∷ a) b da db apart =
    (rw (among_append x a b, da.0) (apart x (here x a)), distinct_append a b da.1 db (λ y h. apart y (there y x a h)))

pub distinct_right : (a b : List ℕ) → Distinct (a ++ b) → Distinct b
distinct_right [] b d = d
distinct_right (x ∷ a) b d = distinct_right a b d.1

pub distinct_apart : (a b : List ℕ) → Distinct (a ++ b) → (x : ℕ) → among x b ≡ true → among x a ≡ false
distinct_apart [] b d x h = refl
distinct_apart (y ∷ a) b d x h =
    is_false (among x (y ∷ a)) (λ t. elim (in_cons x y a t) [
      | inl e ↦ clash (in_right y a b (rw e at h)) d.0
      | inr i ↦ clash i (distinct_apart a b d.1 x h)
    ])

pub distinct_left : (a b : List ℕ) → Distinct (a ++ b) → Distinct a
distinct_left [] b d = tt
distinct_left (x ∷ a) b d = (is_false (among x a) (λ i. clash (in_left x a b i) d.0), distinct_left a b d.1)

-- a number that stands in neither list comes between them
pub distinct_between : (p : ℕ) (a b : List ℕ) → Distinct (a ++ b) → among p a ≡ false → among p b ≡ false → Distinct (a ++ (p ∷ b))
distinct_between p a b d i j =
    distinct_append a (p ∷ b) (distinct_left a b d) (j, distinct_right a b d)
    (λ x h. is_false (among x (p ∷ b)) (λ k. elim (in_cons x p b k) [ inl e ↦ clash (rw e at h) i | inr m ↦ clash h (distinct_apart a b d x m) ]))

-- in a list without repeats each element stands at its position alone
pub position_get_d : (xs : List ℕ) → Distinct xs → (i : ℕ) → i < length xs → position (get_or xs i 0) xs ≡ i
position_get_d [] d i h = absurd (not-suc-le-zero h)
position_get_d (x ∷ xs) d zero h = rw (eq-eqb x x refl, position)
position_get_d (x ∷ xs) d (suc i) h =
    let l : i < length xs = omega arith in
    let apart : eqb (get_or xs i 0) x ≡ false = ne_eqb (get_or xs i 0) x (λ e. clash (rw e at (in_get_d xs i l)) d.0) in
    rw (apart, position) (ap suc (position_get_d xs d.1 i l))

rises_snoc : (xs : List ℕ) (n : ℕ) → Rises xs → ((y : ℕ) → among y xs ≡ true → y < n) → Rises (xs ++ (n ∷ []))
rises_snoc [] n r l = ((λ y i. absurd (false≢true i)), tt)
rises_snoc (x ∷ xs) n r l = (
  (λ y i. elim (in_append y xs (n ∷ []) i) [
    | inl j ↦ r.0 y j
    | inr j ↦ rw (in_one y n j) (l x (here x xs))
  ]),
  rises_snoc xs n r.1 (λ y i. l y (there y x xs i)),
)

pub rises_upto : (n : ℕ) → Rises (upto n)
rises_upto zero = tt
rises_upto (suc n) = rises_snoc (upto n) n (rises_upto n) (upto_low n)

pub rises_those : (p : ℕ → Bool) (xs : List ℕ) → Rises xs → Rises (those p xs)
rises_those p [] r = tt
rises_those p (x ∷ xs) r = at (p x) refl (rises_those p xs r.1)
  where
    at : (t : Bool) → p x ≡ t → Rises (those p xs) → Rises (those p (x ∷ xs))
    at true e ih = rw (those_yes p x xs e) ((λ y i. r.0 y (those_pass p y xs i).1), ih)
    at false e ih = rw (those_no p x xs e) ih

pub rises_distinct : (xs : List ℕ) → Rises xs → Distinct xs
rises_distinct [] r = tt
rises_distinct (x ∷ xs) r = (is_false (among x xs) (λ i. absurd (omega (arith, r.0 x i))), rises_distinct xs r.1)

-- the head is the least
head_least : (x y : ℕ) (xs : List ℕ) → Rises (x ∷ xs) → among y (x ∷ xs) ≡ true → x ≤ y
head_least x y xs r i = elim (in_cons y x xs i) [ inl e ↦ omega arith | inr j ↦ omega (arith, r.0 y j) ]

-- rising lists with the same members are equal
pub rises_unique : (xs ys : List ℕ) → Rises xs → Rises ys → Kept xs ys → Kept ys xs → xs ≡ ys
rises_unique [] [] r s to from = refl
rises_unique [] (y ∷ ys) r s to from = absurd (false≢true (from y (here y ys)))
rises_unique (x ∷ xs) [] r s to from = absurd (false≢true (to x (here x xs)))
rises_unique (x ∷ xs) (y ∷ ys) r s to from =
    let same : x ≡ y = omega (arith, head_least x y xs r (from y (here y ys)), head_least y x ys s (to x (here x xs))) in
    ap₂ ◌∷◌ same (rises_unique xs ys r.1 s.1
    (λ q i. elim (in_cons q y ys (to q (there q x xs i))) [ inl e ↦ absurd (omega (arith, r.0 q i)) | inr j ↦ j ])
    (λ q i. elim (in_cons q x xs (from q (there q y ys i))) [ inl e ↦ absurd (omega (arith, s.0 q i)) | inr j ↦ j ]))

-- a rising list of numbers from a on and below n has room between them
pub rises_fit : (a n : ℕ) (xs : List ℕ) → Rises xs → ((y : ℕ) → among y xs ≡ true → (a ≤ y) × (y < n)) → length xs ≤ n - a
rises_fit a n [] r l = omega arith
rises_fit a n (x ∷ xs) r l =
    let at : (a ≤ x) × (x < n) = l x (here x xs) in
    omega (arith, at.0, at.1, rises_fit (suc x) n xs r.1 (λ y i. (r.0 y i, (l y (there y x xs i)).1)))

-- rising, neighbour by neighbour
pub rises_next : (xs : List ℕ) → Rises xs → (i : ℕ) → suc i < length xs → get_or xs i 0 < get_or xs (suc i) 0
rises_next [] r i h = absurd (not-suc-le-zero h)
rises_next (x ∷ xs) r zero h = r.0 (get_or xs 0 0) (in_get_d xs 0 (omega arith))
rises_next (x ∷ xs) r (suc i) h = rises_next xs r.1 i (omega arith)

pub next_rises : (xs : List ℕ) → ((i : ℕ) → suc i < length xs → get_or xs i 0 < get_or xs (suc i) 0) → Rises xs
next_rises [] n = tt
next_rises (x ∷ []) n = ((λ y i. absurd (false≢true i)), tt)
next_rises (x ∷ z ∷ xs) n =
    let r : Rises (z ∷ xs) = next_rises (z ∷ xs) (λ i h. n (suc i) (omega arith)) in
    ((λ y i. omega (arith, n 0 (omega arith), head_least z y xs r i)), r)

-- the first that passes, in a rising list
pub first_of_lem :
    (p : ℕ → Bool) (xs : List ℕ) (other a : ℕ) → Rises xs → among a xs ≡ true → p a ≡ true
    → (p (first_of p xs other) ≡ true) × (among (first_of p xs other) xs ≡ true) × (first_of p xs other ≤ a)
first_of_lem p [] other a r i t = absurd (false≢true i)
first_of_lem p (x ∷ xs) other a r i t = at (p x) refl (in_cons a x xs i) (λ j. first_of_lem p xs other a r.1 j t)
  where
    at :
        (b : Bool) → p x ≡ b → (a ≡ x) ⊎ (among a xs ≡ true)
        → (among a xs ≡ true → (p (first_of p xs other) ≡ true) × (among (first_of p xs other) xs ≡ true) × (first_of p xs other ≤ a))
        → (p (first_of p (x ∷ xs) other) ≡ true) × (among (first_of p (x ∷ xs) other) (x ∷ xs) ≡ true) × (first_of p (x ∷ xs) other ≤ a)
    at true e c ih =
        let z : first_of p (x ∷ xs) other ≡ x = rw (e, first_of) refl in
        (rw z e, subst (λ (y : ℕ). among y (x ∷ xs) ≡ true) (sym z) (here x xs), rw z (head_least x a xs r i))
    at false e (inl j) ih = clash t (rw j e)
    at false e (inr j) ih =
        let f = ih j in
        let z : first_of p (x ∷ xs) other ≡ first_of p xs other = rw (e, first_of) refl in
        (rw z f.0, subst (λ (y : ℕ). among y (x ∷ xs) ≡ true) (sym z) (there (first_of p xs other) x xs f.1), rw z f.2)

-- a stronger test keeps fewer
pub those_le : (p q : ℕ → Bool) (xs : List ℕ) → ((x : ℕ) → p x ≡ true → q x ≡ true) → length (those p xs) ≤ length (those q xs)
those_le p q [] w = omega arith
those_le p q (x ∷ xs) w = at (p x) refl (q x) refl (those_le p q xs w)
  where
    at :
        (a : Bool) → p x ≡ a → (b : Bool) → q x ≡ b → length (those p xs) ≤ length (those q xs)
        → length (those p (x ∷ xs)) ≤ length (those q (x ∷ xs))
    at true e true f ih = rw (those_yes p x xs e, those_yes q x xs f) (omega arith)
    at true e false f ih = clash (w x e) f
    at false e true f ih = rw (those_no p x xs e, those_yes q x xs f) (omega arith)
    at false e false f ih = rw (those_no p x xs e, those_no q x xs f) ih

pub those_lt :
    (p q : ℕ → Bool) (xs : List ℕ) (a : ℕ) → ((x : ℕ) → p x ≡ true → q x ≡ true) → among a xs ≡ true → q a ≡ true → p a ≡ false
    → length (those p xs) < length (those q xs)
those_lt p q [] a w i t n = absurd (false≢true i)
those_lt p q (x ∷ xs) a w i t n = at (in_cons a x xs i) (p x) refl (q x) refl (λ j. those_lt p q xs a w j t n)
  where
    at :
        (a ≡ x) ⊎ (among a xs ≡ true) → (b : Bool) → p x ≡ b → (c : Bool) → q x ≡ c
        → (among a xs ≡ true → length (those p xs) < length (those q xs))
        → length (those p (x ∷ xs)) < length (those q (x ∷ xs))
    at (inl j) b e c f ih =
        rw (those_no p x xs (rw j at n), those_yes q x xs (rw j at t)) (omega (arith, those_le p q xs w))
    at (inr j) true e true f ih = rw (those_yes p x xs e, those_yes q x xs f) (omega (arith, ih j))
    at (inr j) true e false f ih = clash (w x e) f
    at (inr j) false e true f ih = rw (those_no p x xs e, those_yes q x xs f) (omega (arith, ih j))
    at (inr j) false e false f ih = rw (those_no p x xs e, those_no q x xs f) (ih j)

-- a filter keeps no more than there are
pub those_short : (p : ℕ → Bool) (xs : List ℕ) → length (those p xs) ≤ length xs
those_short p xs = omega (arith, those_split p xs)

-- a list without its x's is shorter, where x is in it
without : (x : ℕ) (ys : List ℕ) → among x ys ≡ true → length (those (λ y. not (eqb y x)) ys) < length ys
without x ys i =
    rw (those_all (λ y. true) ys (λ y j. refl)) at
    (those_lt (λ y. not (eqb y x)) (λ y. true) ys x (λ y t. refl) i refl (ap not (eq-eqb x x refl)))

-- a list without repeats is no longer than a list that has all its members
pub pigeonhole : (xs ys : List ℕ) → Distinct xs → Kept xs ys → length xs ≤ length ys
pigeonhole [] ys d all = omega arith
pigeonhole (x ∷ xs) ys d all =
    omega (arith, pigeonhole xs (those other ys) d.1 kept, without x ys (all x (here x xs)))
  where
    other : ℕ → Bool
    other y = not (eqb y x)

    kept : Kept xs (those other ys)
    kept z i = those_keep other z ys (ap not (ne_eqb z x (λ e. clash (rw e at i) d.0))) (all z (there z x xs i))

-- a list whose values under f count up has no repeats
pub counting_distinct : (f : ℕ → ℕ) (xs : List ℕ) (c : ℕ) → ((i : ℕ) → i < length xs → f (get_or xs i 0) ≡ c + i) → Distinct xs
counting_distinct f [] c up = tt
counting_distinct f (x ∷ xs) c up = (
  is_false (among x xs) (λ i. absurd (omega (arith, up 0 (omega arith), up (suc (position x xs)) (omega (arith, position_low x xs i)), ap f (at_position x xs i)))),
  counting_distinct f xs (suc c) (λ i h. omega (arith, up (suc i) (omega arith))),
)

-- a list without repeats of all of n numbers below n has each
pub pigeonhole_all : (xs : List ℕ) → Distinct xs → ((x : ℕ) → among x xs ≡ true → x < length xs) → (v : ℕ) → v < length xs → among v xs ≡ true
pigeonhole_all xs d low v h = at (among v xs) refl
  where
    at : (t : Bool) → among v xs ≡ t → among v xs ≡ true
    at true e = e
    at false e =
        absurd (omega (
          arith,
          length_upto (length xs),
          pigeonhole (v ∷ xs) (upto (length xs)) (e, d) (λ x i. in_upto (length xs) x (elim (in_cons x v xs i) [ inl j ↦ rw j h | inr j ↦ low x j ])),
        ))
