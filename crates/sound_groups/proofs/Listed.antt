-- Names and the group list, gone through together: one passes over the vertices, whose names are by the rules, and, at each that is its own name, over
-- one of the list. What is left of list and names is the same exactly where the two are.
use mathlib.Core.Bool.{Bool, true, false, not, ◌&&◌, and-false}
use mathlib.Core.Path.{◌≡◌, refl, sym, ap, ◌∙◌}
use mathlib.Core.List.{List, [], ◌∷◌}
use Prim.Native.Nat.{ℕ, suc, ◌+◌, ◌≤◌, ◌<◌}
use native.Mathlib.Omega.{arith}
use native.Mathlib.Decide.{dec_lt}
use native.Mathlib.Numerals.{add-one}
use lib.Dec.{eqb}
use lib.ListN.{length, get_or, drop, drop_of_length-le}
use lib.Seq.{drop-cons}
use borrow.Author.Tests.{eq-eqb, ne_eqb}
use Rattle.lineage.specs.Lists.{upto, those, all_below, same_list}
use Rattle.lineage.specs.Graph.{group_list}
use Rattle.lineage.specs.Sound.{names_pass}
use Rattle.laws.proofs.Lists.{length_upto, get_d_upto, those_yes, those_no}
use Rattle.laws.proofs.Passed.{Passed, passed_none, passed_more, passed_all, passed_not}
use Rattle.sound_groups.specs.Tests.{own_name}

-- the vertex is its own group's name
abbrev own : List ℕ → ℕ → Bool
own names v = eqb (get_or names v 0) v

-- v of n vertices and p of k names listed are passed
pub record Listed (names groups : List ℕ) (n k v p : ℕ) : Type 0 where
  pub long : length groups ≡ k
  pub owned : Passed (own_name names) n v
  pub held : p ≤ k
  pub same : same_list (drop p groups) (those (own names) (drop v (upto n))) ≡ same_list groups (group_list names)

pub listed_none : {n k : ℕ} (names groups : List ℕ) → length names ≡ n → length groups ≡ k → Listed names groups n k 0 0
unfolding group_list
listed_none {n} names groups N G = record {
  long = G;
  owned = passed_none (own_name names) n;
  held = omega arith;
  same = rw N;
}

-- the next vertex
next : (n v : ℕ) → v < n → drop v (upto n) ≡ v ∷ drop (v + 1) (upto n)
next n v h =
    rw (add-one v)
    (drop-cons (upto n) v 0 (omega (arith, length_upto n)) ∙ ap (λ (x : ℕ). x ∷ drop (suc v) (upto n)) (get_d_upto n v h))

none_left : (xs : List ℕ) (p : ℕ) → p ≤ length xs → same_list (drop p xs) [] ≡ eqb p (length xs)
none_left xs p h =
    elim (dec_lt p (length xs)) [
      | yes l ↦ rw (drop-cons xs p 0 l, ne_eqb p (length xs) (λ e. omega arith)) refl
      | no g ↦ let l : length xs ≤ p = omega arith in rw (drop_of_length-le xs l, eq-eqb p (length xs) (omega arith)) refl
    ]

-- the test of names and group list as its two halves
module _ {n : ℕ} (names groups : List ℕ) (N : length names ≡ n) where
  halves : (all_below n (own_name names) && same_list groups (group_list names)) ≡ names_pass names groups
  unfolding names_pass
  halves = rw N

  unlisted : same_list groups (group_list names) ≡ false → false ≡ names_pass names groups
  unlisted f = sym (rw f (and-false (all_below n (own_name names)))) ∙ halves

module _ {n k v p : ℕ} (names groups : List ℕ) (N : length names ≡ n) (L : Listed names groups n k v p) where
  -- at a vertex, of whose name a function tells r, and its caller asks `!r`
  module _ {r : Bool} (low : v < n) (told : r ≡ own_name names v) where
    pub listed_wrong : not r ≡ true → false ≡ names_pass names groups
    listed_wrong f = rw (← (passed_not L.owned low told f)) at (halves names groups N)

    module _ (right : not r ≡ false) {x : ℕ} (read : x ≡ get_or names v 0) where
      pub listed_skip : (x ≡ v → ⊥) → Listed names groups n k (v + 1) p
      listed_skip f = record {
        long = L.long;
        owned = passed_more L.owned low told right;
        held = L.held;
        same = rw (next n v low, those_no (own names) v (drop (v + 1) (upto n)) (rw (← read) (ne_eqb x v f))) at L.same;
      }

      -- that is a name
      module _ (t : x ≡ v) where
        here : same_list (drop p groups) (v ∷ those (own names) (drop (v + 1) (upto n))) ≡ same_list groups (group_list names)
        here = rw (next n v low, those_yes (own names) v (drop (v + 1) (upto n)) (rw (← read) (eq-eqb x v t))) at L.same

        pub listed_over : p ≡ k → false ≡ names_pass names groups
        listed_over e = unlisted names groups N (sym (rw (drop_of_length-le groups {i = p} (omega (arith, L.long))) at here))

        module _ {y : ℕ} (room : p < k) (beside : y ≡ get_or groups p 0) where
          there : drop p groups ≡ y ∷ drop (suc p) groups
          there = drop-cons groups p 0 (omega (arith, L.long)) ∙ ap (λ (z : ℕ). z ∷ drop (suc p) groups) (sym beside)

          pub listed_next : y ≡ v → Listed names groups n k (v + 1) (p + 1)
          listed_next e = record {
            long = L.long;
            owned = passed_more L.owned low told right;
            held = omega arith;
            same = rw (add-one p) (rw (there, eq-eqb y v e) at here);
          }

          pub listed_other : (y ≡ v → ⊥) → false ≡ names_pass names groups
          listed_other f = unlisted names groups N (sym (rw (there, ne_eqb y v f) at here))

  pub listed_all : n ≤ v → eqb p k ≡ names_pass names groups
  listed_all h =
      let done : drop v (upto n) ≡ [] = drop_of_length-le (upto n) {i = v} (omega (arith, length_upto n)) in
      let left : same_list (drop p groups) [] ≡ same_list groups (group_list names) = rw done at L.same in
      ap (eqb p) (sym L.long) ∙ sym (none_left groups p (omega (arith, L.long, L.held))) ∙ left ∙ (rw (← (passed_all L.owned h)) at (halves names groups N))
