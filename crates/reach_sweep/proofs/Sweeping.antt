-- The sweep on its way down: sweeping the ranks that are left, over the marks as they are, comes to the whole sweep over the marks as they were.
use mathlib.Core.Path.{◌≡◌, refl, sym, ◌∙◌}
use mathlib.Core.List.{List, []}
use Prim.Native.Nat.{ℕ, suc, ◌≤◌}
use native.Mathlib.Omega.{arith}
use lib.ListN.{length, get_or}
use borrow.Author.Tests.{eq-eqb, ne_eqb}
use Rattle.reach_sweep.specs.Sweep.{row_marked, turn, swept}
use Rattle.reach_sweep.proofs.Turn.{turn_marked, turn_passed}

-- the ranks from `rank` down to 1 are left
pub record Sweeping (groups : List ℕ) (children : List (List ℕ)) (places : List ℕ) (top rank : ℕ) (before marks : List ℕ) : Type 0 where
  pub long : length marks ≡ length before
  pub rest : swept groups children places rank marks ≡ swept groups children places top before

module _
    {groups : List ℕ} {children : List (List ℕ)} {places : List ℕ} {top rank : ℕ} {before marks : List ℕ}
    (S : Sweeping groups children places top rank before marks)
  where
    -- the turn of the group at the next rank
    module _ {r p name : ℕ} (next : rank ≡ suc r) (is : p ≡ get_or places r 0) (named : name ≡ get_or groups p 0) where
      sweeping_next :
          {after : List ℕ} → turn groups children p marks ≡ after → length after ≡ length marks → Sweeping groups children places top r before after
      unfolding swept
      sweeping_next e l = record {
        long = l ∙ S.long;
        rest = rw (← e, is) (rw next at S.rest);
      }

      -- it is marked, or it is passed over
      pub sweeping_marked :
          {after : List ℕ} → get_or marks name 0 ≡ 1 → after ≡ row_marked groups (get_or children p []) marks → length after ≡ length marks
          → Sweeping groups children places top r before after
      sweeping_marked m e l = sweeping_next (turn_marked groups children p marks (eq-eqb _ 1 (rw named at m)) ∙ sym e) l

      pub sweeping_passed : (get_or marks name 0 ≡ 1 → ⊥) → Sweeping groups children places top r before marks
      sweeping_passed m = sweeping_next (turn_passed groups children p marks (ne_eqb _ 1 (rw named at m))) refl

    pub sweeping_all : rank ≤ 0 → marks ≡ swept groups children places top before
    unfolding swept
    sweeping_all h = let none : rank ≡ 0 = omega arith in rw none at S.rest
