-- A row gone through from its first child on: those passed are places, strictly rising, and the next is at least one more than the last.
use mathlib.Core.Bool.{Bool, false, ◌&&◌, and-false}
use mathlib.Core.Path.{◌≡◌, ap}
use mathlib.Core.List.{List, []}
use Prim.Native.Nat.{ℕ, zero, suc, ◌+◌, ◌-◌, ◌≤◌, ◌<◌}
use native.Mathlib.Omega.{arith}
use native.Mathlib.Numerals.{add-one}
use lib.Dec.{ltb}
use lib.ListN.{length, get_or}
use borrow.Author.Tests.{lt-ltb, le-ltb}
use Rattle.lineage.specs.Lists.{all_below}
use Rattle.lineage.specs.Sound.{row_passes}
use Rattle.laws.proofs.Lists.{all_broken}
use Rattle.laws.proofs.Passed.{Passed, passed_next, passed_all}

-- child i is a place
abbrev low_at : ℕ → List ℕ → ℕ → Bool
low_at k row i = ltb (get_or row i 0) k

-- child i is below the next
abbrev rises_at : List ℕ → ℕ → Bool
rises_at row i = ltb (get_or row i 0) (get_or row (suc i) 0)

-- the least number that may stand at position i
abbrev least_at : List ℕ → ℕ → ℕ
least_at row zero = 0
least_at row (suc i) = suc (get_or row i 0)

-- i of len children are passed, and `next` is the least that may follow
pub record Rising (k : ℕ) (row : List ℕ) (len i next : ℕ) : Type 0 where
  pub low : Passed (low_at k row) len i
  pub rises : Passed (rises_at row) (len - 1) (i - 1)
  pub follows : next ≡ least_at row i

-- one more has risen
step : {k : ℕ} {row : List ℕ} {len next : ℕ} (i : ℕ) {q : ℕ} → Rising k row len i next → i < len → q ≡ get_or row i 0 → next ≤ q → Passed (rises_at row) (len - 1) i
step zero N h e l = N.rises
step {row = row} {len = len} {next = next} (suc i) {q} N h e l =
    let up : get_or row i 0 < get_or row (suc i) 0 = omega (arith, N.follows) in
    let z : suc i - 1 ≡ i = omega arith in
    let o : i + 1 ≡ suc i = add-one i in
    rw o at (passed_next (rw z at N.rises) (omega arith) (lt-ltb (get_or row i 0) (get_or row (suc i) 0) up))

-- one has not
slip : {k : ℕ} {row : List ℕ} {len next : ℕ} (i : ℕ) {q : ℕ} → Rising k row len i next → i < len → q ≡ get_or row i 0 → q < next → all_below (len - 1) (rises_at row) ≡ false
slip zero N h e l = absurd (omega (arith, N.follows))
slip {row = row} {len = len} (suc i) N h e l =
    all_broken (rises_at row) (len - 1) i (omega arith) (le-ltb (get_or row i 0) (get_or row (suc i) 0) (omega (arith, N.follows)))

-- what was read is the row of group p; b is what is asked after it
module _ {row : List ℕ} {k len : ℕ} (rows : List (List ℕ)) (p : ℕ) (long : length rows ≡ k) (is : row ≡ get_or rows p []) (has : length row ≡ len) where
  passes_is : (all_below len (low_at k row) && all_below (len - 1) (rises_at row)) ≡ row_passes rows p
  passes_is = rw (← is, has, long)

  broken : (b : Bool) → (all_below len (low_at k row) && all_below (len - 1) (rises_at row)) ≡ false → false ≡ (row_passes rows p && b)
  broken b f = rw (← passes_is, f)

  module _ {i next q : ℕ} (N : Rising k row len i next) (h : i < len) (e : q ≡ get_or row i 0) where
    pub rising_high : (b : Bool) → k ≤ q → false ≡ (row_passes rows p && b)
    rising_high b l = broken b (rw (all_broken (low_at k row) len i h (rw (← e) (le-ltb q k l))))

    pub rising_back : (b : Bool) → q < next → false ≡ (row_passes rows p && b)
    rising_back b l = broken b (rw (slip i N h e l) (and-false (all_below len (low_at k row))))

  pub rising_all : {i next : ℕ} {a b : Bool} → Rising k row len i next → len ≤ i → a ≡ b → a ≡ (row_passes rows p && b)
  rising_all {i} N l t =
      let all : i ≡ len = omega (arith, N.low.within) in
      rw (← passes_is, ← (passed_all N.low l), ← (passed_all N.rises (omega arith))) t

pub rising_more : {k len i next q : ℕ} {row : List ℕ} → Rising k row len i next → i < len → q ≡ get_or row i 0 → q < k → next ≤ q → Rising k row len (i + 1) (q + 1)
rising_more {k} {len} {i} {next} {q} N h e l g = record {
  low = passed_next N.low h (rw (← e) (lt-ltb q k l));
  rises = let z : i + 1 - 1 ≡ i = omega arith in rw z (step i N h e g);
  follows = rw (add-one i, add-one q) (ap suc e);
}
