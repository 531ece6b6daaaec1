-- In a rising list the numbers below v stand first, so how many they are can be found by halves; it is where v stands, or would stand. As the numbers
-- are all different, they are at most v; and those that are not below v, but below n, are at most n - v.
use mathlib.Core.Bool.{Bool, true, false, false≢true}
use mathlib.Core.Logic.{◌⊎◌, inl, inr}
use mathlib.Core.Path.{◌≡◌, refl, sym, ap, ◌∙◌}
use mathlib.Core.List.{List, [], ◌∷◌}
use Prim.Native.Nat.{ℕ, zero, suc, ◌+◌, ◌≤◌, ◌<◌}
use native.Mathlib.Nat.{not-suc-le-zero}
use native.Mathlib.Decide.{ℕ_discrete}
use native.Mathlib.Omega.{arith}
use lib.Dec.{eqb, ltb}
use lib.ListN.{length, get_or}
use borrow.Author.Tests.{eqb-true, eq-eqb, ne_eqb, ltb-true, ltb-false, lt-ltb, le-ltb}
use Rattle.lineage.specs.Lists.{among, those, position}
use Rattle.laws.specs.Rising.{Rises, count_below}
use Rattle.laws.proofs.Tests.{is_false}
use Rattle.laws.proofs.Lists.{here, there, in_cons, those_yes, those_no, those_pass, those_none}
use Rattle.laws.proofs.Positions.{position_low, at_position, in_get_d}
use Rattle.laws.proofs.Rising.{rises_those, rises_fit}

module _ (v : ℕ) where
  abbrev below : ℕ → Bool
  below x = ltb x v

  -- behind a number that is not below v there is none
  none_behind : (x : ℕ) (xs : List ℕ) → Rises (x ∷ xs) → v ≤ x → those below xs ≡ []
  none_behind x xs r h = those_none below xs (λ y i. le-ltb y v (omega (arith, r.0 y i)))

  -- position i is on the side that the number there tells
  abbrev pub Side : List ℕ → ℕ → Type 0
  Side xs i = (get_or xs i 0 < v → i < count_below v xs) × (v ≤ get_or xs i 0 → count_below v xs ≤ i)

  pub sides : (xs : List ℕ) → Rises xs → (i : ℕ) → i < length xs → Side xs i
  sides [] r i h = absurd (not-suc-le-zero h)
  sides (x ∷ xs) r i h = at (ltb x v) refl i h (sides xs r.1)
    where
      at : (b : Bool) → ltb x v ≡ b → (i : ℕ) → i < suc (length xs) → ((j : ℕ) → j < length xs → Side xs j) → Side (x ∷ xs) i
      at true e zero l ih = rw (those_yes below x xs e) ((λ z. omega arith), λ z. absurd (omega (arith, ltb-true x v e)))
      at true e (suc j) l ih =
          let s = ih j (omega arith) in
          rw (those_yes below x xs e) ((λ z. omega (arith, s.0 z)), λ z. omega (arith, s.1 z))
      at false e zero l ih =
          rw (those_no below x xs e, none_behind x xs r (ltb-false x v e)) ((λ z. absurd (omega (arith, ltb-false x v e))), λ z. omega arith)
      at false e (suc j) l ih =
          let up : x < get_or xs j 0 = r.0 (get_or xs j 0) (in_get_d xs j (omega arith)) in
          rw (those_no below x xs e, none_behind x xs r (ltb-false x v e)) ((λ z. absurd (omega (arith, ltb-false x v e))), λ z. omega arith)

  -- the halving may begin between these two
  pub count_most : (xs : List ℕ) → Rises xs → count_below v xs ≤ v
  count_most xs r =
      omega (arith, rises_fit 0 v (those below xs) (rises_those below xs r) (λ y i. (omega arith, ltb-true y v (those_pass below y xs i).0)))

  pub count_least : (n : ℕ) (xs : List ℕ) → Rises xs → ((y : ℕ) → among y xs ≡ true → y < n) → v ≤ n → v + length xs ≤ n + count_below v xs
  count_least n [] r l h = omega arith
  count_least n (x ∷ xs) r l h = at (ltb x v) refl (count_least n xs r.1 (λ y i. l y (there y x xs i)) h)
    where
      at : (b : Bool) → ltb x v ≡ b → v + length xs ≤ n + count_below v xs → v + suc (length xs) ≤ n + count_below v (x ∷ xs)
      at true e ih = rw (those_yes below x xs e) (omega arith)
      at false e ih =
          omega (arith, rises_fit v n (x ∷ xs) r (λ y i. (from y (in_cons y x xs i), l y i)), l x (here x xs))
        where
          from : (y : ℕ) → (y ≡ x) ⊎ (among y xs ≡ true) → v ≤ y
          from y (inl same) = omega (arith, ltb-false x v e)
          from y (inr j) = omega (arith, ltb-false x v e, r.0 y j)

  -- where v stands
  pub position_below : (xs : List ℕ) → Rises xs → among v xs ≡ true → count_below v xs ≡ position v xs
  position_below [] r i = absurd (false≢true i)
  position_below (x ∷ xs) r i = at (eqb v x) refl (position_below xs r.1)
    where
      at : (b : Bool) → eqb v x ≡ b → (among v xs ≡ true → count_below v xs ≡ position v xs) → count_below v (x ∷ xs) ≡ position v (x ∷ xs)
      at true e ih =
          let same : v ≤ x = omega (arith, eqb-true v x e) in
          rw (e, position, those_no below x xs (le-ltb x v same), none_behind x xs r same)
      at false e ih =
          let m : among v xs ≡ true = rw e at i in
          rw (e, position, those_yes below x xs (lt-ltb x v (r.0 v m))) (ap suc (ih m))

  -- whether v stands there at all
  module _ (xs : List ℕ) (r : Rises xs) where
    pub found_none : length xs ≤ count_below v xs → false ≡ among v xs
    found_none h = sym (is_false (among v xs) (λ t. omega (arith, position_below xs r t, position_low v xs t)))

    pub found_at : {x : ℕ} → count_below v xs < length xs → x ≡ get_or xs (count_below v xs) 0 → eqb x v ≡ among v xs
    found_at {x} h e = at (ℕ_discrete x v)
      where
        at : Dec (x ≡ v) → eqb x v ≡ among v xs
        at (yes z) =
            let here : get_or xs (count_below v xs) 0 ≡ v = sym e ∙ z in
            eq-eqb x v z ∙ sym (rw here at (in_get_d xs (count_below v xs) h))
        at (no z) =
            ne_eqb x v z
            ∙ sym (is_false (among v xs) (λ t. z (e ∙ ap (λ (i : ℕ). get_or xs i 0) (position_below xs r t) ∙ at_position v xs t)))
