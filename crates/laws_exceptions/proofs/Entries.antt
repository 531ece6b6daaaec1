-- The entries of a list. An entry is twice its place or one more, so entries rise with places and half of an entry is its place; and an entry is below 2t
-- exactly where its place is below t, so the position that halving finds for 2t is where t stands in the list, or would stand.
use mathlib.Core.Bool.{Bool, true, false, cond}
use mathlib.Core.Logic.{◌↔◌}
use mathlib.Core.Path.{◌≡◌, refl, sym, ap, ◌∙◌}
use mathlib.Core.List.{List, [], ◌∷◌, map}
use Prim.Native.Nat.{ℕ, suc, ◌+◌, ◌*◌, ◌/◌, ◌<◌, ◌≤◌}
use native.Mathlib.Omega.{arith}
use lib.Dec.{ltb}
use lib.ListN.{length, get_or, length-map}
use borrow.Author.Tests.{ltb-true, ltb-false, lt-ltb, le-ltb}
use Rattle.lineage.specs.Lists.{among}
use Rattle.lineage.specs.Index.{Index}
use Rattle.laws.specs.Rising.{Rises, count_below}
use Rattle.laws.proofs.Lists.{those_yes, those_no, of_map, get_d_mapped}
use Rattle.laws.proofs.Positions.{position_low, at_position, in_get_d}
use Rattle.laws.proofs.Halving.{position_below}
use Rattle.laws_exceptions.specs.Exceptions.{is_indirect, entry, entries_of, exceptions_of}
use Rattle.laws_exceptions.proofs.Exceptions.{exceptions_rise}

-- a function that rises keeps a list rising
rises_map : (f : ℕ → ℕ) → ((a b : ℕ) → a < b → f a < f b) → (xs : List ℕ) → Rises xs → Rises (map f xs)
rises_map f up [] r = tt
rises_map f up (x ∷ xs) r = (
  (λ y i. let (z, j, e) = of_map f y xs i in omega (arith, e, up x z (r.0 z j))),
  rises_map f up xs r.1,
)

-- a function that goes as twice its number or one more
module _ (f : ℕ → ℕ) (low : (y : ℕ) → 2 * y ≤ f y) (high : (y : ℕ) → f y ≤ 2 * y + 1) where
  count_half : (t : ℕ) (ys : List ℕ) → count_below (2 * t) (map f ys) ≡ count_below t ys
  count_half t [] = refl
  count_half t (y ∷ ys) = at (ltb y t) refl (count_half t ys)
    where
      at : (b : Bool) → ltb y t ≡ b → count_below (2 * t) (map f ys) ≡ count_below t ys → count_below (2 * t) (f y ∷ map f ys) ≡ count_below t (y ∷ ys)
      at true e ih =
          let up : f y < 2 * t = omega (arith, high y, ltb-true y t e) in
          rw (those_yes (λ x. ltb x (2 * t)) (f y) (map f ys) (lt-ltb (f y) (2 * t) up), those_yes (λ x. ltb x t) y ys e) (ap suc ih)
      at false e ih =
          let up : 2 * t ≤ f y = omega (arith, low y, ltb-false y t e) in
          rw (those_no (λ x. ltb x (2 * t)) (f y) (map f ys) (le-ltb (f y) (2 * t) up), those_no (λ x. ltb x t) y ys e) ih

  half_is : (y : ℕ) → f y / 2 ≡ y
  half_is y = omega (arith, low y, high y)

  -- t is in the list exactly where the number found for 2t halves to t
  among_half :
      (t : ℕ) (ys : List ℕ) → Rises ys
      → (among t ys ≡ true)
      ↔ ((count_below (2 * t) (map f ys) < length (map f ys)) × (get_or (map f ys) (count_below (2 * t) (map f ys)) 0 / 2 ≡ t))
  among_half t ys r = rw (count_half t ys, length-map ys f) (to, from)
    where
      to : among t ys ≡ true → (count_below t ys < length ys) × (get_or (map f ys) (count_below t ys) 0 / 2 ≡ t)
      to i =
          let h : count_below t ys < length ys = omega (arith, position_below t ys r i, position_low t ys i) in (
            h,
            ap (λ (z : ℕ). z / 2) (get_d_mapped f ys (count_below t ys) 0 0 h) ∙ half_is (get_or ys (count_below t ys) 0)
                ∙ ap (λ (j : ℕ). get_or ys j 0) (position_below t ys r i) ∙ at_position t ys i,
          )

      from : (count_below t ys < length ys) × (get_or (map f ys) (count_below t ys) 0 / 2 ≡ t) → among t ys ≡ true
      from h =
          let is : get_or ys (count_below t ys) 0 ≡ t =
          sym (half_is (get_or ys (count_below t ys) 0)) ∙ ap (λ (z : ℕ). z / 2) (sym (get_d_mapped f ys (count_below t ys) 0 0 h.0)) ∙ h.1 in
          rw is at (in_get_d ys (count_below t ys) h.0)

module _ (I : Index) (x : ℕ) where
  bit_low : (b : Bool) → cond b 1 0 ≤ 1
  bit_low true = omega arith
  bit_low false = omega arith

  pub entry_low : (y : ℕ) → 2 * y ≤ entry I x y
  entry_low y = omega arith

  pub entry_high : (y : ℕ) → entry I x y ≤ 2 * y + 1
  entry_high y = omega (arith, bit_low (is_indirect I x y))

  -- half of an entry is its place
  pub entry_half : (y : ℕ) → entry I x y / 2 ≡ y
  entry_half = half_is (entry I x) entry_low entry_high

  -- the entries rise
  pub entries_rise : Rises (entries_of I x)
  entries_rise =
      rises_map (entry I x) (λ a b h. omega (arith, entry_high a, entry_low b)) (exceptions_of I x) (exceptions_rise I x)

  -- t is listed exactly where the entry at the position that halving gives halves to t
  pub among_entry :
      (t : ℕ)
      → (among t (exceptions_of I x) ≡ true)
      ↔ ((count_below (2 * t) (entries_of I x) < length (entries_of I x)) × (get_or (entries_of I x) (count_below (2 * t) (entries_of I x)) 0 / 2 ≡ t))
  among_entry t = among_half (entry I x) entry_low entry_high t (exceptions_of I x) (exceptions_rise I x)
