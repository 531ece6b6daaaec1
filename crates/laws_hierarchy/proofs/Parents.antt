-- No group is a child of two others exactly where two groups with a common child are one. Two parents that differ are two members of the list of
-- parents, so it is of two or more; and that list rises, so its first two members differ.
use mathlib.Core.Bool.{Bool, true, false, not}
use mathlib.Core.Logic.{◌↔◌, ◌≢◌, inl, inr}
use mathlib.Core.Path.{◌≡◌, refl, ap}
use mathlib.Core.List.{List, [], ◌∷◌}
use Prim.Native.Nat.{ℕ, ◌<◌}
use native.Mathlib.Decide.{ℕ_discrete}
use native.Mathlib.Omega.{arith}
use lib.ListN.{length, get_or}
use borrow.Author.Tests.{ltb-true, lt-ltb}
use Rattle.lineage.specs.Lists.{upto, any, among}
use Rattle.lineage.specs.Sound.{child_of, parents_of, shared, is_tree}
use Rattle.laws.specs.Rising.{Rises}
use Rattle.laws.proofs.Tests.{clash, is_false}
use Rattle.laws.proofs.Lists.{in_one, in_cons, Kept, those_pass, those_keep, any_in, in_any, in_upto, upto_low}
use Rattle.laws.proofs.Positions.{in_get_d}
use Rattle.laws.proofs.Rising.{rises_upto, rises_those, rises_next, pigeonhole}
use Rattle.laws_hierarchy.specs.Hierarchy.{OneParent}

module _ (children : List (List ℕ)) where
  abbrev k : ℕ
  k = length children

  abbrev has : ℕ → ℕ → Bool
  has x p = child_of children p x

  -- the list of parents holds the parents, rising
  parent_in : (p x : ℕ) → p < k → child_of children p x ≡ true → among p (parents_of children x) ≡ true
  parent_in p x h i = those_keep (has x) p (upto k) i (in_upto k p h)

  in_parent : (p x : ℕ) → among p (parents_of children x) ≡ true → (p < k) × (child_of children p x ≡ true)
  in_parent p x i = let (c, j) = those_pass (has x) p (upto k) i in (upto_low k p j, c)

  parents_rise : (x : ℕ) → Rises (parents_of children x)
  parents_rise x = rises_those (has x) (upto k) (rises_upto k)

  -- two parents that differ are two
  two_shared : (p q x : ℕ) → p < k → q < k → child_of children p x ≡ true → child_of children q x ≡ true → p ≢ q → shared children x ≡ true
  two_shared p q x hp hq i j n =
      lt-ltb 1 (length (parents_of children x))
      (pigeonhole (p ∷ q ∷ []) (parents_of children x) (is_false (among p (q ∷ [])) (λ t. n (in_one p q t)), (refl, tt)) kept)
    where
      kept : Kept (p ∷ q ∷ []) (parents_of children x)
      kept y o =
          elim (in_cons y p (q ∷ []) o) [
            | inl e ↦ rw e (parent_in p x hp i)
            | inr r ↦ rw (in_one y q r) (parent_in q x hq j)
          ]

  -- where two parents are one, there are no two
  one_unshared : OneParent children → (x : ℕ) → shared children x ≡ false
  one_unshared one x =
      is_false (shared children x) (λ t.
      let ps : List ℕ = parents_of children x in
      let two : 1 < length ps = ltb-true 1 (length ps) t in
      let a = in_parent (get_or ps 0 0) x (in_get_d ps 0 (omega arith)) in
      let b = in_parent (get_or ps 1 0) x (in_get_d ps 1 two) in
      omega (arith, rises_next ps (parents_rise x) 0 two, one (get_or ps 0 0) (get_or ps 1 0) x a.0 b.0 a.1 b.1))

  -- the test decides it, where children are places
  pub tree_exactly : ((p x : ℕ) → p < k → child_of children p x ≡ true → x < k) → (is_tree children ≡ true) ↔ OneParent children
  unfolding is_tree
  tree_exactly child_in = (one_of, λ one. ap not (none one))
    where
      one_of : is_tree children ≡ true → OneParent children
      one_of t p q x hp hq i j =
          elim (ℕ_discrete p q) [
            | yes e ↦ e
            | no n ↦ clash t (ap not (any_in (shared children) x (upto k) (in_upto k x (child_in p x hp i)) (two_shared p q x hp hq i j n)))
          ]

      none : OneParent children → any (shared children) (upto k) ≡ false
      none one = is_false (any (shared children) (upto k)) (λ y. let (x, i, t) = in_any (shared children) (upto k) y in clash t (one_unshared one x))
