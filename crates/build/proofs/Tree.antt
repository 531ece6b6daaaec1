-- Check 22 by the first group that keeps a graph out of a form: at a form of plain hierarchies that is the first that is a child of two others, and at any other form
-- none is.
use mathlib.Core.Bool.{Bool, true, false, not, ◌&&◌, cond}
use mathlib.Core.Path.{◌≡◌, refl, sym, ap, ◌∙◌}
use mathlib.Core.List.{List}
use Prim.Native.Nat.{ℕ, ◌<◌}
use lib.ListN.{length}
use borrow.Author.Tests.{not-false}
use Rattle.std.specs.Prelude.{Option, Some, None}
use Rattle.lineage.specs.Lists.{upto, any, first_of}
use Rattle.lineage.specs.Sound.{shared, is_tree}
use Rattle.laws.proofs.Tests.{clash}
use Rattle.numbers.specs.Found.{found_below}
use Rattle.build.proofs.Checks.{some_low, any_some, first_some, any_none_found}

-- where 22 does not apply, at a form of plain hierarchies the graph is one; and the other way round
pub plain_passed : (tree plain : Bool) → (tree && not plain) ≡ false → tree ≡ true → plain ≡ true
plain_passed true plain p t = not-false plain p
plain_passed false plain p t = clash t refl

pub passed_plain : (tree plain : Bool) → (tree ≡ true → plain ≡ true) → (tree && not plain) ≡ false
passed_plain true plain h = ap not (h refl)
passed_plain false plain h = refl

not-not : (b : Bool) → not (not b) ≡ b
not-not true = refl
not-not false = refl

-- 22 applies, and p is its group
pub record Fails (children : List (List ℕ)) (k : ℕ) (tree : Bool) (p : ℕ) : Type 0 where
  pub applies : (tree && not (is_tree children)) ≡ true
  pub is : p ≡ first_of (shared children) (upto (length children)) 0
  pub low : p < k

module _ (children : List (List ℕ)) (k : ℕ) (long : length children ≡ k) where
  shared_any : not (is_tree children) ≡ any (shared children) (upto k)
  unfolding is_tree
  shared_any = not-not (any (shared children) (upto (length children))) ∙ ap (λ (n : ℕ). any (shared children) (upto n)) long

  -- the test of 22, and its group
  pub tree_passes : (tree : Bool) (first : Option ℕ)
      → first ≡ cond tree (found_below k (first_of (shared children) (upto k) k)) None
      → first ≡ None
      → (tree && not (is_tree children)) ≡ false
  tree_passes true first found none = shared_any ∙ any_none_found (shared children) k found none
  tree_passes false first found none = refl

  pub tree_fails : (tree : Bool) (first : Option ℕ) {p : ℕ}
      → first ≡ cond tree (found_below k (first_of (shared children) (upto k) k)) None
      → first ≡ Some p
      → Fails children k tree p
  tree_fails true first found some = record {
    applies = shared_any ∙ any_some (shared children) k found some;
    is = first_some (shared children) k found some ∙ ap (λ (n : ℕ). first_of (shared children) (upto n) 0) (sym long);
    low = some_low (shared children) k found some;
  }
  tree_fails false first found some = absurd (cc)
