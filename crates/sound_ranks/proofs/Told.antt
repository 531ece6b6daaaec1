-- A test of all numbers below n, gone through from 0 on to the end: a Bool tells whether every number passed has passed it.
use mathlib.Core.Bool.{Bool, ◌&&◌}
use mathlib.Core.Path.{◌≡◌, ap₂}
use Prim.Native.Nat.{ℕ, ◌+◌, ◌≤◌, ◌<◌}
use native.Mathlib.Omega.{arith}
use native.Mathlib.Numerals.{add-one}
use Rattle.lineage.specs.Lists.{all_below}

-- i of n numbers are gone through
pub record Told (p : ℕ → Bool) (n i : ℕ) (passed : Bool) : Type 0 where
  pub within : i ≤ n
  pub tells : passed ≡ all_below i p

module _ {p : ℕ → Bool} {n i : ℕ} {passed : Bool} (T : Told p n i passed) where
  pub told_more : {r : Bool} → i < n → r ≡ p i → Told p n (i + 1) (passed && r)
  told_more l e = record { within = omega arith; tells = rw (add-one i) (ap₂ ◌&&◌ T.tells e) }
