-- A test of all numbers below n, gone through from 0 on: every number passed has passed it. It holds at the next number too, or that number breaks it.
use mathlib.Core.Bool.{Bool, true, false, not}
use mathlib.Core.Path.{◌≡◌, refl, sym}
use Prim.Native.Nat.{ℕ, ◌+◌, ◌≤◌, ◌<◌}
use native.Mathlib.Omega.{arith}
use native.Mathlib.Numerals.{add-one}
use Rattle.lineage.specs.Lists.{all_below}
use Rattle.laws.proofs.Tests.{and_both, told_true, told_false}
use Rattle.laws.proofs.Lists.{all_broken}

-- i of n numbers are gone through
pub record Passed (p : ℕ → Bool) (n i : ℕ) : Type 0 where
  pub within : i ≤ n
  pub all : all_below i p ≡ true

-- none is gone through, the next passes, all have passed
pub passed_none : (p : ℕ → Bool) (n : ℕ) → Passed p n 0
passed_none p n = record { within = omega arith; all = refl }

module _ {p : ℕ → Bool} {n i : ℕ} (P : Passed p n i) where
  pub passed_next : i < n → p i ≡ true → Passed p n (i + 1)
  passed_next l t = record { within = omega arith; all = rw (add-one i) (and_both P.all t) }

  pub passed_all : n ≤ i → true ≡ all_below n p
  passed_all l = let e : i ≡ n = omega (arith, P.within) in rw (← e) (sym P.all)

  -- where a function tells r of the test at i, and its caller asks `!r`
  module _ {r : Bool} (l : i < n) (e : r ≡ p i) where
    pub passed_more : not r ≡ false → Passed p n (i + 1)
    passed_more t = passed_next l (told_true e t)

    pub passed_not : not r ≡ true → false ≡ all_below n p
    passed_not f = sym (all_broken p n i l (told_false e f))
