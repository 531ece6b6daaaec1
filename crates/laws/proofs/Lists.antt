-- Lists of numbers: members, filters, tests of all, the numbers below n and tables over them. Each is an induction on the list, with a case for how the test of the
-- head comes out.
use mathlib.Core.Bool.{Bool, true, false, not, ◌||◌, false≢true, or_assoc}
use mathlib.Core.Logic.{◌⊎◌, inl, inr}
use mathlib.Core.Path.{◌≡◌, refl, sym, ap, ap₂, ◌∙◌}
use mathlib.Core.List.{List, [], ◌∷◌, ◌++◌, map}
use Prim.Native.Nat.{ℕ, zero, suc, ◌+◌, ◌<◌}
use native.Mathlib.Nat.{not-suc-le-zero}
use native.Mathlib.Decide.{ℕ_discrete, dec_lt}
use native.Mathlib.Omega.{arith}
use lib.Dec.{eqb}
use lib.ListN.{length, get_or, length-append, length-map, get_or-append}
use lib.Seq.{get_or_at, ext_get_or}
use borrow.Author.Tests.{eqb-true, eq-eqb}
use Rattle.lineage.specs.Lists.{upto, any, all_below, among, those, same_list}
use Rattle.laws.proofs.Tests.{or_left, or_right, or_cases, and_both, and_left, and_right, clash, is_false}

-- members of a list joined of two
pub among_append : (x : ℕ) (a b : List ℕ) → among x (a ++ b) ≡ (among x a || among x b)
among_append x [] b = refl
among_append x (y ∷ a) b = rw (among_append x a b) (sym (or_assoc (eqb x y) (among x a) (among x b)))

-- the head is a member, and a member of the tail is one
pub here : (x : ℕ) (xs : List ℕ) → among x (x ∷ xs) ≡ true
here x xs = or_left _ (eq-eqb x x refl)

pub here_at : (x y : ℕ) (xs : List ℕ) → x ≡ y → among x (y ∷ xs) ≡ true
here_at x y xs e = or_left _ (eq-eqb x y e)

pub there : (x y : ℕ) (xs : List ℕ) → among x xs ≡ true → among x (y ∷ xs) ≡ true
there x y xs h = or_right (eqb x y) h

-- a member of a list is its head or in its tail
pub in_cons : (x y : ℕ) (xs : List ℕ) → among x (y ∷ xs) ≡ true → (x ≡ y) ⊎ (among x xs ≡ true)
in_cons x y xs h = elim (or_cases (eqb x y) _ h) [ inl e ↦ inl (eqb-true x y e) | inr i ↦ inr i ]

pub in_one : (x y : ℕ) → among x (y ∷ []) ≡ true → x ≡ y
in_one x y h = elim (in_cons x y [] h) [ inl e ↦ e | inr i ↦ absurd (false≢true i) ]

pub in_left : (x : ℕ) (a b : List ℕ) → among x a ≡ true → among x (a ++ b) ≡ true
in_left x a b h = rw (among_append x a b) (or_left _ h)

pub in_right : (x : ℕ) (a b : List ℕ) → among x b ≡ true → among x (a ++ b) ≡ true
in_right x a b h = rw (among_append x a b) (or_right (among x a) h)

-- a member of a list joined of two
pub in_append : (x : ℕ) (a b : List ℕ) → among x (a ++ b) ≡ true → (among x a ≡ true) ⊎ (among x b ≡ true)
in_append x a b h = or_cases (among x a) (among x b) (rw among_append at h)

-- all of the one list is in the other
abbrev pub Kept : List ℕ → List ℕ → Type 0
Kept xs ys = (q : ℕ) → among q xs ≡ true → among q ys ≡ true

-- a filter of a list joined of two
pub those_append : (p : ℕ → Bool) (a b : List ℕ) → those p (a ++ b) ≡ those p a ++ those p b
those_append p [] b = refl
those_append p (x ∷ a) b = at (p x) refl (those_append p a b)
  where
    at : (t : Bool) → p x ≡ t → those p (a ++ b) ≡ those p a ++ those p b → those p (x ∷ (a ++ b)) ≡ those p (x ∷ a) ++ those p b
    at true e ih = rw (e, those) (ap (x ∷◌) ih)
    at false e ih = rw (e, those) ih

-- a filter's head
pub those_yes : (p : ℕ → Bool) (x : ℕ) (xs : List ℕ) → p x ≡ true → those p (x ∷ xs) ≡ x ∷ those p xs
those_yes p x xs h = rw (h, those)

pub those_no : (p : ℕ → Bool) (x : ℕ) (xs : List ℕ) → p x ≡ false → those p (x ∷ xs) ≡ those p xs
those_no p x xs h = rw (h, those)

-- what a filter keeps: members that pass
pub those_pass : (p : ℕ → Bool) (x : ℕ) (xs : List ℕ) → among x (those p xs) ≡ true → (p x ≡ true) × (among x xs ≡ true)
those_pass p x [] h = absurd (false≢true h)
those_pass p x (y ∷ xs) h = at (p y) refl (those_pass p x xs)
  where
    at : (t : Bool) → p y ≡ t → (among x (those p xs) ≡ true → (p x ≡ true) × (among x xs ≡ true)) → (p x ≡ true) × (among x (y ∷ xs) ≡ true)
    at true e ih =
        elim (in_cons x y (those p xs) (rw (those_yes p y xs e) at h)) [
          | inl i ↦ (rw i e, here_at x y xs i)
          | inr i ↦ ((ih i).0, there x y xs (ih i).1)
        ]
    at false e ih = let i = ih (rw (those_no p y xs e) at h) in (i.0, there x y xs i.1)

pub those_keep : (p : ℕ → Bool) (x : ℕ) (xs : List ℕ) → p x ≡ true → among x xs ≡ true → among x (those p xs) ≡ true
those_keep p x [] t h = h
those_keep p x (y ∷ xs) t h = at (p y) refl (in_cons x y xs h) (those_keep p x xs t)
  where
    at : (b : Bool) → p y ≡ b → (x ≡ y) ⊎ (among x xs ≡ true) → (among x xs ≡ true → among x (those p xs) ≡ true) → among x (those p (y ∷ xs)) ≡ true
    at true e (inl i) ih = rw (those_yes p y xs e) (here_at x y (those p xs) i)
    at true e (inr i) ih = rw (those_yes p y xs e) (there x y (those p xs) (ih i))
    at false e (inl i) ih = clash t (rw i e)
    at false e (inr i) ih = rw (those_no p y xs e) (ih i)

-- a filter that keeps all, and one that keeps none
pub those_all : (p : ℕ → Bool) (xs : List ℕ) → ((x : ℕ) → among x xs ≡ true → p x ≡ true) → those p xs ≡ xs
those_all p [] all = refl
those_all p (x ∷ xs) all = those_yes p x xs (all x (here x xs)) ∙ ap (x ∷◌) (those_all p xs (λ y i. all y (there y x xs i)))

pub those_none : (p : ℕ → Bool) (xs : List ℕ) → ((x : ℕ) → among x xs ≡ true → p x ≡ false) → those p xs ≡ []
those_none p [] all = refl
those_none p (x ∷ xs) all = those_no p x xs (all x (here x xs)) ∙ those_none p xs (λ y i. all y (there y x xs i))

-- tests and functions that agree on a list's members
pub any_same : (p q : ℕ → Bool) (xs : List ℕ) → ((x : ℕ) → among x xs ≡ true → p x ≡ q x) → any p xs ≡ any q xs
any_same p q [] all = refl
any_same p q (x ∷ xs) all = rw (all x (here x xs), any_same p q xs (λ y i. all y (there y x xs i)))

pub those_same : (p q : ℕ → Bool) (xs : List ℕ) → ((x : ℕ) → among x xs ≡ true → p x ≡ q x) → those p xs ≡ those q xs
those_same p q [] all = refl
those_same p q (x ∷ xs) all = at (q x) refl (those_same p q xs (λ y i. all y (there y x xs i)))
  where
    at : (t : Bool) → q x ≡ t → those p xs ≡ those q xs → those p (x ∷ xs) ≡ those q (x ∷ xs)
    at true e ih = those_yes p x xs (all x (here x xs) ∙ e) ∙ ap (x ∷◌) ih ∙ sym (those_yes q x xs e)
    at false e ih = those_no p x xs (all x (here x xs) ∙ e) ∙ ih ∙ sym (those_no q x xs e)

pub map_same : {A : Type 0} (f g : ℕ → A) (xs : List ℕ) → ((x : ℕ) → among x xs ≡ true → f x ≡ g x) → map f xs ≡ map g xs
map_same f g [] all = refl
map_same f g (x ∷ xs) all = ap₂ ◌∷◌ (all x (here x xs)) (map_same f g xs (λ y i. all y (there y x xs i)))

-- those that pass and those that do not are all
pub those_split : (p : ℕ → Bool) (xs : List ℕ) → length (those p xs) + length (those (λ x. not (p x)) xs) ≡ length xs
those_split p [] = omega arith
those_split p (x ∷ xs) = at (p x) refl (those_split p xs)
  where
    at :
        (t : Bool) → p x ≡ t → length (those p xs) + length (those (λ y. not (p y)) xs) ≡ length xs
        → length (those p (x ∷ xs)) + length (those (λ y. not (p y)) (x ∷ xs)) ≡ suc (length xs)
    at true e ih = rw (those_yes p x xs e, those_no (λ y. not (p y)) x xs (ap not e)) (omega arith)
    at false e ih = rw (those_no p x xs e, those_yes (λ y. not (p y)) x xs (ap not e)) (omega arith)

-- some member passes
pub any_in : (p : ℕ → Bool) (x : ℕ) (xs : List ℕ) → among x xs ≡ true → p x ≡ true → any p xs ≡ true
any_in p x [] i t = i
any_in p x (y ∷ xs) i t =
    elim (in_cons x y xs i) [ inl e ↦ or_left _ (rw e at t) | inr j ↦ or_right (p y) (any_in p x xs j t) ]

pub in_any : (p : ℕ → Bool) (xs : List ℕ) → any p xs ≡ true → (x : ℕ) × (among x xs ≡ true) × (p x ≡ true)
in_any p [] h = absurd (false≢true h)
in_any p (y ∷ xs) h =
    elim (or_cases (p y) _ h) [
      | inl t ↦ (y, here y xs, t)
      | inr j ↦ let (x, i, t) = in_any p xs j in (x, there x y xs i, t)
    ]

pub any_none : (p : ℕ → Bool) (xs : List ℕ) → any p xs ≡ false → (x : ℕ) → among x xs ≡ true → p x ≡ false
any_none p xs e x i = is_false (p x) (λ t. clash (any_in p x xs i t) e)

-- every number below n passes, or one does not
pub all_from : (n : ℕ) (p : ℕ → Bool) → ((i : ℕ) → i < n → p i ≡ true) → all_below n p ≡ true
all_from zero p all = refl
all_from (suc n) p all = and_both (all_from n p (λ i h. all i (omega arith))) (all n (omega arith))

pub all_below_lem : (n : ℕ) (p : ℕ → Bool) (i : ℕ) → all_below n p ≡ true → i < n → p i ≡ true
all_below_lem zero p i t h = absurd (not-suc-le-zero h)
all_below_lem (suc n) p i t h = at (ℕ_discrete i n) (all_below_lem n p i (and_left (all_below n p) (p n) t))
  where
    at : Dec (i ≡ n) → (i < n → p i ≡ true) → p i ≡ true
    at (yes e) ih = rw e (and_right (all_below n p) (p n) t)
    at (no e) ih = ih (omega arith)

pub all_broken : (p : ℕ → Bool) (n i : ℕ) → i < n → p i ≡ false → all_below n p ≡ false
all_broken p n i h f = is_false (all_below n p) (λ t. clash (all_below_lem n p i t h) f)

-- two lists that are equal
pub same_list_lem : (xs ys : List ℕ) → same_list xs ys ≡ true → xs ≡ ys
same_list_lem [] [] e = refl
same_list_lem [] (y ∷ ys) e = absurd (false≢true e)
same_list_lem (x ∷ xs) [] e = absurd (false≢true e)
same_list_lem (x ∷ xs) (y ∷ ys) e =
    ap₂ ◌∷◌ (eqb-true x y (and_left (eqb x y) (same_list xs ys) e)) (same_list_lem xs ys (and_right (eqb x y) (same_list xs ys) e))

pub same_self : (xs : List ℕ) → same_list xs xs ≡ true
same_self [] = refl
same_self (x ∷ xs) = and_both (eq-eqb x x refl) (same_self xs)

-- the numbers below n
pub in_upto : (n v : ℕ) → v < n → among v (upto n) ≡ true
in_upto zero v h = absurd (not-suc-le-zero h)
in_upto (suc n) v h = at (ℕ_discrete v n) (in_upto n v)
  where
    at : Dec (v ≡ n) → (v < n → among v (upto n) ≡ true) → among v (upto n ++ (n ∷ [])) ≡ true
    at (yes e) ih = in_right v (upto n) (n ∷ []) (here_at _ n [] e)
    at (no ne) ih = in_left v (upto n) (n ∷ []) (ih (omega arith))

pub upto_low : (n v : ℕ) → among v (upto n) ≡ true → v < n
upto_low zero v h = absurd (false≢true h)
upto_low (suc n) v h =
    elim (in_append v (upto n) (n ∷ []) h) [
      | inl i ↦ omega (arith, upto_low n v i)
      | inr i ↦ omega (arith, in_one v n i)
    ]

pub length_upto : (n : ℕ) → length (upto n) ≡ n
length_upto zero = refl
length_upto (suc n) = omega (arith, length-append (upto n) (n ∷ []), length_upto n)

pub get_d_upto : (n i : ℕ) → i < n → get_or (upto n) i 0 ≡ i
get_d_upto zero i h = absurd (not-suc-le-zero h)
get_d_upto (suc n) i h = at (dec_lt i n) (get_d_upto n i)
  where
    at : Dec (i < n) → (i < n → get_or (upto n) i 0 ≡ i) → get_or (upto n ++ (n ∷ [])) i 0 ≡ i
    at (yes l) ih = get_or-append (upto n) (n ∷ []) 0 i (omega (arith, length_upto n)) ∙ ih l
    at (no l) ih = get_or_at (upto n) n [] 0 i (omega (arith, length_upto n)) ∙ omega arith

-- an element of a mapped list, whatever stands for what is not there
pub get_d_mapped : {A B : Type 0} (f : A → B) (xs : List A) (i : ℕ) (a : A) (b : B) → i < length xs → get_or (map f xs) i b ≡ f (get_or xs i a)
get_d_mapped f [] i a b h = absurd (not-suc-le-zero h)
get_d_mapped f (x ∷ xs) zero a b h = refl
get_d_mapped f (x ∷ xs) (suc i) a b h = get_d_mapped f xs i a b (omega arith)

-- a table of a function over the numbers below n
pub table_at : {A : Type 0} (f : ℕ → A) (n i : ℕ) (d : A) → i < n → get_or (map f (upto n)) i d ≡ f i
table_at f n i d h = get_d_mapped f (upto n) i 0 d (omega (arith, length_upto n)) ∙ ap f (get_d_upto n i h)

pub table_long : {A : Type 0} (f : ℕ → A) (n : ℕ) → length (map f (upto n)) ≡ n
table_long f n = length-map (upto n) f ∙ length_upto n

pub table_same : {A : Type 0} (f g : ℕ → A) (n : ℕ) → ((i : ℕ) → i < n → f i ≡ g i) → map f (upto n) ≡ map g (upto n)
table_same f g n all = map_same f g (upto n) (λ i h. all i (upto_low n i h))

pub table_is : {A : Type 0} (f : ℕ → A) (xs : List A) (n : ℕ) (d : A) → length xs ≡ n → ((i : ℕ) → i < n → f i ≡ get_or xs i d) → map f (upto n) ≡ xs
table_is f xs n d l all =
    ext_get_or d (map f (upto n)) xs (table_long f n ∙ sym l) (λ i h. let k : i < n = omega (arith, table_long f n) in table_at f n i d k ∙ all i k)

-- members of a mapped list
pub in_map : (f : ℕ → ℕ) (x : ℕ) (xs : List ℕ) → among x xs ≡ true → among (f x) (map f xs) ≡ true
in_map f x [] h = h
in_map f x (y ∷ xs) h =
    elim (in_cons x y xs h) [
      | inl e ↦ here_at (f x) (f y) (map f xs) (ap f e)
      | inr i ↦ there (f x) (f y) (map f xs) (in_map f x xs i)
    ]

pub of_map : (f : ℕ → ℕ) (y : ℕ) (xs : List ℕ) → among y (map f xs) ≡ true → (x : ℕ) × (among x xs ≡ true) × (y ≡ f x)
of_map f y [] h = absurd (false≢true h)
of_map f y (x ∷ xs) h =
    elim (in_cons y (f x) (map f xs) h) [
      | inl e ↦ (x, here x xs, e)
      | inr i ↦ let (z, j, o) = of_map f y xs i in (z, there z x xs j, o)
    ]
