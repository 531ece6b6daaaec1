-- One turn of the climb. Where the group has a marked child it is marked too, and nothing else changes.
use mathlib.Core.Bool.{Bool, true, false}
use mathlib.Core.Logic.{◌⊎◌, inl, inr}
use mathlib.Core.Path.{◌≡◌, refl, sym, subst}
use mathlib.Core.List.{List, [], ◌∷◌}
use Prim.Native.Nat.{ℕ, ◌<◌}
use native.Mathlib.Omega.{arith}
use lib.ListN.{length, get_or, set, drop, length-set}
use lib.Seq.{get_or-set_same}
use borrow.Author.Tests.{eqb-true, eq-eqb}
use Rattle.lineage.specs.Lists.{any}
use Rattle.numbers.proofs.Marks.{marks_past, marks_keep, marks_from}
use Rattle.laws.proofs.Lists.{in_one}
use Rattle.reach_sweep.specs.Sweep.{marked}
use Rattle.reach_climb.specs.Climb.{lifted}

module _ (groups : List ℕ) (children : List (List ℕ)) (p : ℕ) (marks : List ℕ) where
  abbrev some : Bool
  some = any (marked groups marks) (get_or children p [])

  pub lifted_marked : some ≡ true → lifted groups children p marks ≡ set marks (get_or groups p 0) 1
  unfolding lifted
  lifted_marked h = rw h

  pub lifted_passed : some ≡ false → lifted groups children p marks ≡ marks
  unfolding lifted
  lifted_passed h = rw h

  either : (P : List ℕ → Type 0) → (some ≡ true → P (set marks (get_or groups p 0) 1)) → P marks → P (lifted groups children p marks)
  either P with_mark without = at some refl
    where
      at : (b : Bool) → some ≡ b → P (lifted groups children p marks)
      at true e = subst P (sym (lifted_marked e)) (with_mark e)
      at false e = subst P (sym (lifted_passed e)) without

  pub lifted_long : length (lifted groups children p marks) ≡ length marks
  lifted_long = either (λ m. length m ≡ length marks) (λ e. length-set marks (get_or groups p 0) 1) refl

  pub lifted_past : (n : ℕ) → get_or groups p 0 < n → drop n (lifted groups children p marks) ≡ drop n marks
  lifted_past n low =
      either (λ m. drop n m ≡ drop n marks) (λ e. marks_past n (get_or groups p 0 ∷ []) marks (λ q i. omega (arith, in_one q (get_or groups p 0) i))) refl

  -- no mark is taken away
  pub lifted_keeps : (q : ℕ) → marked groups marks q ≡ true → marked groups (lifted groups children p marks) q ≡ true
  lifted_keeps q h =
      either (λ m. marked groups m q ≡ true) (λ e. eq-eqb _ 1 (marks_keep (get_or groups p 0 ∷ []) marks (get_or groups q 0) (eqb-true _ 1 h))) h

  -- a group with a marked child is marked
  pub lifted_gives : get_or groups p 0 < length marks → some ≡ true → marked groups (lifted groups children p marks) p ≡ true
  lifted_gives l h = rw (lifted_marked h) (eq-eqb _ 1 (get_or-set_same marks (get_or groups p 0) 1 0 l))

  -- a mark comes from before, or is that of the group, which has a marked child
  pub lifted_from :
      (q : ℕ) → marked groups (lifted groups children p marks) q ≡ true → (marked groups marks q ≡ true) ⊎ ((get_or groups q 0 ≡ get_or groups p 0) × (some ≡ true))
  lifted_from q =
      either (λ m. marked groups m q ≡ true → (marked groups marks q ≡ true) ⊎ ((get_or groups q 0 ≡ get_or groups p 0) × (some ≡ true)))
      (λ e h. elim (marks_from (get_or groups p 0 ∷ []) marks (get_or groups q 0) (eqb-true _ 1 h)) [
        | inl m ↦ inl (eq-eqb _ 1 m)
        | inr i ↦ inr (in_one (get_or groups q 0) (get_or groups p 0) i, e)
      ])
      (λ h. inl h)
