-- The vertices gone through from 0 on: those so far that pass the test, counted, and written in front of what was lent.
use mathlib.Core.Bool.{Bool, true, false}
use mathlib.Core.Path.{◌≡◌, refl, sym, ap, ◌∙◌}
use mathlib.Core.List.{List, [], ◌∷◌, ◌++◌, append_assoc, append-nil}
use Prim.Native.Nat.{ℕ, zero, suc, ◌+◌, ◌≤◌, ◌<◌}
use native.Mathlib.Decide.{ℕ_discrete}
use native.Mathlib.Numerals.{add-one}
use native.Mathlib.Omega.{arith}
use lib.Dec.{eqb}
use lib.ListN.{length, get_or, drop, set, length-append, length-set}
use lib.Seq.{drop-cons, set-append_seam}
use borrow.Author.Tests.{eq-eqb, ne_eqb}
use Rattle.lineage.specs.Lists.{upto, those}
use Rattle.laws.proofs.Lists.{those_append, those_yes, those_no, length_upto}
use Rattle.laws.proofs.Rising.{those_short}
use Rattle.numbers.proofs.Numbers.{numbers_long}
use Rattle.list.specs.declared.listing.Listing.{Listing}
use Rattle.list.specs.Listing.{is_listed, listed}
use Rattle.list.specs.Vertices.{lists, vertices_of}

module _ (p : ℕ → Bool) where
  -- one vertex more
  those_more : (v : ℕ) → p v ≡ true → those p (upto (v + 1)) ≡ those p (upto v) ++ (v ∷ [])
  those_more v h = rw (add-one v, those_append p (upto v) (v ∷ []), those_yes p v [] h) refl

  those_over : (v : ℕ) → p v ≡ false → those p (upto (v + 1)) ≡ those p (upto v)
  those_over v h = rw (add-one v, those_append p (upto v) (v ∷ []), those_no p v [] h) (append-nil (those p (upto v)))

  -- those below v are no more than those below n
  those_up : (v n : ℕ) → v ≤ n → length (those p (upto v)) ≤ length (those p (upto n))
  those_up v zero h = let e : v ≡ 0 = omega arith in rw e (omega arith)
  those_up v (suc n) h =
      elim (ℕ_discrete v (suc n)) [
        | yes e ↦ rw e (omega arith)
        | no e ↦
            omega (
              arith,
              those_up v n (omega arith),
              ap length (those_append p (upto n) (n ∷ [])),
              length-append (those p (upto n)) (those p (n ∷ [])),
            )
      ]

-- v vertices are gone through, and `count` of them passed
pub record Counted (p : ℕ → Bool) (v count : ℕ) : Type 0 where
  pub is : count ≡ length (those p (upto v))

-- they are no more than there are vertices
pub counted_most : {p : ℕ → Bool} {v count : ℕ} → Counted p v count → count ≤ v
counted_most {p} {v} C = omega (arith, C.is, those_short p (upto v), length_upto v)

module _ {p : ℕ → Bool} {v count : ℕ} (C : Counted p v count) {r : Bool} (e : r ≡ p v) where
  pub counted_more : r ≡ true → Counted p (v + 1) (count + 1)
  counted_more t = record { is = rw (those_more p v (sym e ∙ t)) (omega (arith, C.is, length-append (those p (upto v)) (v ∷ []))) }

  pub counted_over : r ≡ false → Counted p (v + 1) count
  counted_over f = record { is = rw (those_over p v (sym e ∙ f)) C.is }

  -- where one passes, there are more than those counted
  counted_below : {n : ℕ} → v < n → r ≡ true → count < length (those p (upto n))
  counted_below {n} h t =
      omega (arith, C.is, those_up p (v + 1) n (omega arith), ap length (those_more p v (sym e ∙ t)), length-append (those p (upto v)) (v ∷ []))

-- those that passed stand in front of what was lent
pub record Written (p : ℕ → Bool) (v : ℕ) (before out : List ℕ) : Type 0 where
  pub long : length out ≡ length before
  pub is : out ≡ those p (upto v) ++ drop (length (those p (upto v))) before

-- one element more in front of what was lent
front_more : (xs before : List ℕ) (v : ℕ) → length xs < length before
    → set (xs ++ drop (length xs) before) (length xs) v ≡ (xs ++ (v ∷ [])) ++ drop (length (xs ++ (v ∷ []))) before
front_more xs before v h =
    let long : length (xs ++ (v ∷ [])) ≡ suc (length xs) = omega (arith, length-append xs (v ∷ [])) in
    rw (long, drop-cons before (length xs) 0 h, set-append_seam xs (get_or before (length xs) 0) (drop (suc (length xs)) before) v)
    (sym (append_assoc xs (v ∷ []) (drop (suc (length xs)) before)))

module _ {p : ℕ → Bool} {v count : ℕ} {before out : List ℕ} (C : Counted p v count) (W : Written p v before out) {r : Bool} (e : r ≡ p v) where
  pub written_more : r ≡ true → count < length before → Written p (v + 1) before (set out count v)
  written_more t l = record {
    long = length-set out count v ∙ W.long;
    is = rw (those_more p v (sym e ∙ t), C.is, W.is) (front_more (those p (upto v)) before v (omega (arith, C.is)));
  }

  pub written_over : r ≡ false → Written p (v + 1) before out
  written_over f = record { long = W.long; is = rw (those_over p v (sym e ∙ f)) W.is }

-- what is told of one vertex
module _ (names marks : List ℕ) {u v : ℕ} (own : Bool) where
  pub own_listed : u ≡ v → own ≡ is_listed names marks u own v
  unfolding is_listed
  own_listed e = rw (eq-eqb u v e)

  pub mark_listed : {name : ℕ} → (u ≡ v → ⊥) → name ≡ get_or names v 0 → eqb (get_or marks name 0) 1 ≡ is_listed names marks u own v
  unfolding is_listed
  mark_listed f e = rw (ne_eqb u v f, e)

-- all vertices gone through
module _ (l : Listing) where
  all_listed : vertices_of l ≡ those (lists l) (upto l.names.len)
  unfolding listed
  all_listed = rw (numbers_long l.names.width l.names.bytes.now l.names.len)

  -- where one more is listed, a list that has room for all has room for it
  pub listed_room :
      {v count size : ℕ} {r : Bool} → Counted (lists l) v count → v < l.names.len → r ≡ lists l v → r ≡ true → length (vertices_of l) ≤ size → count < size
  listed_room C h e t room = omega (arith, counted_below C e h t, ap length all_listed)

  module _ {v count : ℕ} (C : Counted (lists l) v count) (gone : v ≡ l.names.len) where
    pub counted_all : count ≡ length (vertices_of l)
    counted_all = C.is ∙ ap (λ (x : ℕ). length (those (lists l) (upto x))) gone ∙ sym (ap length all_listed)

    pub written_all : {before out : List ℕ} → Written (lists l) v before out → out ≡ vertices_of l ++ drop (length (vertices_of l)) before
    written_all {before} W =
        W.is
        ∙ ap (λ (x : ℕ). those (lists l) (upto x) ++ drop (length (those (lists l) (upto x))) before) gone
        ∙ sym (ap (λ (xs : List ℕ). xs ++ drop (length xs) before) all_listed)
