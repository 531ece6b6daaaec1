-- Looking through 0, 1, .. , n - 1 for the first that passes a test: n where none does. That one of them passes, and which, is read off what is found.
use mathlib.Core.Bool.{Bool, true, false, not, ◌||◌}
use mathlib.Core.Path.{◌≡◌, refl, sym, ap, ◌∙◌}
use mathlib.Core.List.{List, [], ◌∷◌, ◌++◌}
use Prim.Native.Nat.{ℕ, zero, suc, ◌+◌, ◌<◌, ◌≤◌}
use native.Mathlib.Nat.{not-suc-le-zero}
use native.Mathlib.Decide.{ℕ_discrete, dec_lt}
use native.Mathlib.Omega.{arith}
use lib.Dec.{ltb, leb-suc-zero, leb-suc-suc}
use lib.ListN.{length, get_or}
use borrow.Author.Count.{below_none, below_more}
use borrow.Author.Tests.{lt-ltb, le-ltb}
use Rattle.std.specs.Prelude.{Option, Some, None, cond, is_some}
use Rattle.std.specs.List.{position_or_len, list_any}
use Rattle.std.proofs.lemmas.List.Sums.{fails_before_first, passes_at_first, prefix_len-le-length}
use Rattle.lineage.specs.Lists.{upto, any, among, first_of}
use Rattle.laws.proofs.Tests.{clash}
use Rattle.laws.proofs.Lists.{here, there, in_any, in_upto, upto_low, any_none}
use Rattle.laws.proofs.Rising.{rises_upto, first_of_lem}
use Rattle.numbers.specs.Found.{found_below}

-- none of the numbers below i passes: what a loop over 0, 1, .. knows
pub record NoneBelow (p : ℕ → Bool) (i : ℕ) : Type 0 where
  pub none : (j : ℕ) → j < i → p j ≡ false

module _ (p : ℕ → Bool) where
  first_yes : (x : ℕ) (xs : List ℕ) (other : ℕ) → p x ≡ true → first_of p (x ∷ xs) other ≡ x
  first_yes x xs other e = rw (e, first_of)

  first_no : (x : ℕ) (xs : List ℕ) (other : ℕ) → p x ≡ false → first_of p (x ∷ xs) other ≡ first_of p xs other
  first_no x xs other e = rw (e, first_of)

  first_append : (a b : List ℕ) (other : ℕ) → first_of p (a ++ b) other ≡ first_of p a (first_of p b other)
  first_append [] b other = refl
  first_append (x ∷ a) b other = at (p x) refl (first_append a b other)
    where
      at : (t : Bool) → p x ≡ t → first_of p (a ++ b) other ≡ first_of p a (first_of p b other) → first_of p (x ∷ (a ++ b)) other ≡ first_of p (x ∷ a) (first_of p b other)
      at true e ih = first_yes x (a ++ b) other e ∙ sym (first_yes x a (first_of p b other) e)
      at false e ih = first_no x (a ++ b) other e ∙ ih ∙ sym (first_no x a (first_of p b other) e)

  -- none passes; i passes, and none before it
  first_none : (n other : ℕ) → ((j : ℕ) → j < n → p j ≡ false) → first_of p (upto n) other ≡ other
  first_none zero other none = refl
  first_none (suc n) other none =
      first_append (upto n) (n ∷ []) other ∙ first_none n (first_of p (n ∷ []) other) (λ j h. none j (omega arith)) ∙ first_no n [] other (none n (omega arith))

  first_is : (n other i : ℕ) → i < n → ((j : ℕ) → j < i → p j ≡ false) → p i ≡ true → first_of p (upto n) other ≡ i
  first_is zero other i h none yes-i = absurd (not-suc-le-zero h)
  first_is (suc n) other i h none yes-i = first_append (upto n) (n ∷ []) other ∙ at (ℕ_discrete i n) (first_is n (first_of p (n ∷ []) other) i)
    where
      at : Dec (i ≡ n) → (i < n → ((j : ℕ) → j < i → p j ≡ false) → p i ≡ true → first_of p (upto n) (first_of p (n ∷ []) other) ≡ i) → first_of p (upto n) (first_of p (n ∷ []) other) ≡ i
      at (yes e) ih = first_none n (first_of p (n ∷ []) other) (λ j k. none j (omega arith)) ∙ first_yes n [] other (rw e at yes-i) ∙ sym e
      at (no ne) ih = ih (omega arith) none yes-i

  -- where one passes, the other number does not matter
  pub first_other : (xs : List ℕ) (a b : ℕ) → any p xs ≡ true → first_of p xs a ≡ first_of p xs b
  first_other [] a b h = clash h refl
  first_other (x ∷ xs) a b h = at (p x) refl (first_other xs a b)
    where
      at : (t : Bool) → p x ≡ t → (any p xs ≡ true → first_of p xs a ≡ first_of p xs b) → first_of p (x ∷ xs) a ≡ first_of p (x ∷ xs) b
      at true e ih = first_yes x xs a e ∙ sym (first_yes x xs b e)
      at false e ih = first_no x xs a e ∙ ih (rw e at h) ∙ sym (first_no x xs b e)

  -- some number below n passes exactly where the first found is below n
  pub any_first : (n : ℕ) → any p (upto n) ≡ ltb (first_of p (upto n) n) n
  any_first n = at (any p (upto n)) refl
    where
      at : (t : Bool) → any p (upto n) ≡ t → any p (upto n) ≡ ltb (first_of p (upto n) n) n
      at true e =
          let (x, i, t) = in_any p (upto n) e in
          let (q, j, l) = first_of_lem p (upto n) n x (rises_upto n) i t in
          e ∙ sym (lt-ltb (first_of p (upto n) n) n (upto_low n (first_of p (upto n) n) j))
      at false e =
          let none : first_of p (upto n) n ≡ n = first_none n n (λ j h. any_none p (upto n) e j (in_upto n j h)) in
          e ∙ sym (le-ltb (first_of p (upto n) n) n (omega arith))

  -- something is found exactly where one passes
  pub found_tells : (n : ℕ) {o : Option ℕ} → o ≡ found_below n (first_of p (upto n) n) → is_some o ≡ any p (upto n)
  found_tells n e = ap is_some e ∙ below (ltb (first_of p (upto n) n) n) (first_of p (upto n) n) ∙ sym (any_first n)
    where
      below : (t : Bool) (x : ℕ) → is_some (cond t (Some x) None) ≡ t
      below true x = refl
      below false x = refl

  -- that something was found, and that nothing was
  module _ (n : ℕ) where
    pub found_is : {i : ℕ} → Some i ≡ found_below n (first_of p (upto n) n) → (i ≡ first_of p (upto n) n) × (i < n)
    found_is {i} e = elim (dec_lt (first_of p (upto n) n) n) [
      | yes h ↦ let same : i ≡ first_of p (upto n) n = cc (rw (lt-ltb (first_of p (upto n) n) n h) at e) in (same, omega arith)
      | no h ↦ absurd (cc (rw (le-ltb (first_of p (upto n) n) n (omega arith)) at e))
    ]

    pub found_not : None ≡ found_below n (first_of p (upto n) n) → n ≤ first_of p (upto n) n
    found_not e = elim (dec_lt (first_of p (upto n) n) n) [
      | yes h ↦ absurd (cc (rw (lt-ltb (first_of p (upto n) n) n h) at e))
      | no h ↦ omega arith
    ]

-- two tests that agree on a list have the same first
pub first_same : (p q : ℕ → Bool) (xs : List ℕ) (other : ℕ) → ((x : ℕ) → among x xs ≡ true → p x ≡ q x) → first_of p xs other ≡ first_of q xs other
first_same p q [] other same = refl
first_same p q (x ∷ xs) other same = at (p x) refl (first_same p q xs other (λ y i. same y (there y x xs i)))
  where
    at : (t : Bool) → p x ≡ t → first_of p xs other ≡ first_of q xs other → first_of p (x ∷ xs) other ≡ first_of q (x ∷ xs) other
    at true e ih = first_yes p x xs other e ∙ sym (first_yes q x xs other (sym (same x (here x xs)) ∙ e))
    at false e ih = first_no p x xs other e ∙ ih ∙ sym (first_no q x xs other (sym (same x (here x xs)) ∙ e))

module _ {p : ℕ → Bool} where
  pub none_begin : NoneBelow p 0
  none_begin = record { none = below_none _ }

  pub none_more : {i : ℕ} → NoneBelow p i → p i ≡ false → NoneBelow p (i + 1)
  none_more s e = record { none = below_more _ _ s.none e }

  -- i passes: it is the first
  pub found_here : {i : ℕ} (n : ℕ) → NoneBelow p i → i < n → p i ≡ true → Some i ≡ found_below n (first_of p (upto n) n)
  found_here {i} n s h t = rw (first_is p n n i h s.none t, lt-ltb i n h)

  -- none of the n passes
  pub found_nowhere : {i : ℕ} (n : ℕ) → NoneBelow p i → n ≤ i → None ≡ found_below n (first_of p (upto n) n)
  found_nowhere n s h = rw (first_none p n n (λ j l. s.none j (omega arith)), le-ltb n n (omega arith))

-- what `any` and `position` say of the elements of a list: the test of an index is that of the element there
module _ {X : Type 0} (test : X → Bool) (p : ℕ → Bool) (xs : List X) (d : X) (same : (i : ℕ) → i < length xs → p i ≡ test (get_or xs i d)) where
  pub position_first : position_or_len test xs ≡ first_of p (upto (length xs)) (length xs)
  position_first = elim (dec_lt (position_or_len test xs) (length xs)) [
    | yes h ↦ sym (first_is p (length xs) (length xs) (position_or_len test xs) h (λ j l. same j (omega arith) ∙ fails_before_first test xs j d l)
        (same (position_or_len test xs) h ∙ passes_at_first test xs d h))
    | no h ↦
        let all : position_or_len test xs ≡ length xs = omega (arith, prefix_len-le-length (λ x. not (test x)) xs) in
        all ∙ sym (first_none p (length xs) (length xs) (λ j l. same j l ∙ fails_before_first test xs j d (omega (arith, all))))
  ]

  pub position_found : cond (ltb (position_or_len test xs) (length xs)) (Some (position_or_len test xs)) None
      ≡ found_below (length xs) (first_of p (upto (length xs)) (length xs))
  position_found = ap (found_below (length xs)) position_first

  pub any_found : list_any test xs ≡ any p (upto (length xs))
  any_found = any_position xs ∙ ap (λ i. ltb i (length xs)) position_first ∙ sym (any_first p (length xs))
    where
      any_position : (ys : List X) → list_any test ys ≡ ltb (position_or_len test ys) (length ys)
      any_position [] = sym (leb-suc-zero 0)
      any_position (y ∷ ys) = at (test y) (any_position ys)
        where
          at : (t : Bool) → list_any test ys ≡ ltb (position_or_len test ys) (length ys) → (t || list_any test ys) ≡ ltb (cond (not t) (1 + position_or_len test ys) 0) (suc (length ys))
          at true ih = sym (lt-ltb 0 (suc (length ys)) (omega arith))
          at false ih = ih ∙ sym (leb-suc-suc (suc (position_or_len test ys)) (length ys)) ∙ ap (λ i. ltb i (suc (length ys))) (let e : suc (position_or_len test ys) ≡ 1 + position_or_len test ys = omega arith in e)
