-- Where the children of one group stand, and that they are its row of the children's list.
use mathlib.Core.Bool.{Bool, true, ◌&&◌}
use mathlib.Core.Path.{◌≡◌, sym, ap, ap₂, ◌∙◌}
use mathlib.Core.List.{List, []}
use Prim.Native.Nat.{ℕ, suc, ◌+◌, ◌-◌, ◌*◌, ◌^◌, ◌≤◌, ◌<◌}
use native.Mathlib.Nat.{mul-le-mul_left}
use native.Mathlib.Omega.{arith}
use lib.Dec.{ltb}
use lib.ListN.{length, get_or}
use borrow.Author.Tests.{ltb-true}
use Rattle.lineage.specs.Lists.{all_below, part}
use Rattle.lineage.specs.Numbers.{Width, num_at, numbers}
use Rattle.lineage.specs.Sound.{row_passes}
use Rattle.laws.proofs.Tests.{and_left, and_right}
use Rattle.laws.proofs.Lists.{all_below_lem}
use Rattle.stored.specs.Sections.{children_in}
use Rattle.numbers.specs.Regions.{Part}
use Rattle.numbers.proofs.Numbers.{numbers_part}
use Rattle.stored.specs.Rows.{Holds, Rows, Row, Children, Places}
use Rattle.stored.proofs.Sections.{starts_rise, starts_within, children_long, row_is, row_long, row_at_lem}
use Rattle.stored.proofs.Read.{can_read}

-- numbers of a part of the bytes
pub numbers_in : (w : ℕ) (s : List ℕ) (count from len : ℕ) {r : List ℕ} → from + len ≤ count → Part s (w * from) (w * len) r → numbers w r len ≡ part (numbers w s count) from len
numbers_in w s count from len h P = ap (λ (b : List ℕ). numbers w b len) P.is ∙ numbers_part w s count from len h

-- child starts that have passed: none falls, and none is above c
module _ {w k c : ℕ} {starts : List ℕ} (R : Rows w starts k c) where
  pub row_rises : (p : ℕ) → p < k → num_at w starts p ≤ num_at w starts (p + 1)
  row_rises = starts_rise w starts k c R.passed

  pub row_within : (p : ℕ) → p ≤ k → num_at w starts p ≤ c
  row_within = starts_within w starts k c R.passed

  -- the row between two starts that were read
  pub row_between : {p a b : ℕ} → p < k → a ≡ num_at w starts p → b ≡ num_at w starts (p + 1) → Row w starts k c p a (b - a)
  row_between {p} {a} {b} h ea eb = record {
    low = h;
    begins = ea;
    ends = omega (arith, row_rises p h);
    within = omega (arith, row_rises p h, row_within (p + 1) (omega arith));
  }

-- one row
module _ {w k c p from len : ℕ} {starts children : List ℕ} (K : Children w starts children k c) (R : Row w starts k c p from len) where
  -- child i can be read
  pub can_read_child : {i : ℕ} → i < len → record { width : Width w; w_in_bounds : w * (from + i) + w ≤ length children }
  can_read_child {i} h = can_read K.held (omega (arith, R.within))

  -- the row has that many children
  pub row_has : length (get_or (children_in w starts children k c) p []) ≡ len
  row_has =
      row_long w starts children k c p R.low (row_rises K.rows p R.low) (row_within K.rows (p + 1) (omega (arith, R.low)))
      ∙ omega (arith, R.begins, R.ends)

  -- its children are numbers of theirs
  pub row_fits : (from + len < 2 ^ 32) × (w * (from + len) ≤ length children)
  row_fits = (omega (arith, R.within, K.held.few), omega (arith, mul-le-mul_left w R.within, K.held.long))

  pub row_numbers : {r : List ℕ} → Part children (w * from) (w * len) r → numbers w r len ≡ get_or (children_in w starts children k c) p []
  row_numbers P =
      numbers_in w children c from len R.within P
      ∙ ap₂ (λ (a n : ℕ). part (numbers w children c) a n) R.begins (omega (arith, R.begins, R.ends))
      ∙ sym (row_is w starts children k c p R.low)

  pub row_held : {r : List ℕ} → Part children (w * from) (w * len) r → Holds w r len
  row_held P = record { width = K.held.width; long = omega (arith, P.long); few = omega (arith, R.within, K.held.few) }

  -- what was read is child i of the row
  pub child_was : {i q : ℕ} → i < len → q ≡ num_at w children (from + i) → q ≡ get_or (get_or (children_in w starts children k c) p []) i 0
  child_was {i} {q} h e =
      let l : i < num_at w starts (p + 1) - num_at w starts p = omega (arith, R.begins, R.ends) in
      e ∙ ap (λ (n : ℕ). num_at w children (n + i)) R.begins
      ∙ sym (row_at_lem w starts children k c p R.low (row_rises K.rows p R.low) (row_within K.rows (p + 1) (omega (arith, R.low))) i l)

-- children that have passed: each is a place, and below the next
module _ {w k c : ℕ} {starts children : List ℕ} (P : Places w starts children k c) {p : ℕ} (low : p < k) where
  abbrev rows : List (List ℕ)
  rows = children_in w starts children k c

  abbrev row : List ℕ
  row = get_or rows p []

  abbrev lows : Bool
  lows = all_below (length row) (λ i. ltb (get_or row i 0) (length rows))

  abbrev ups : Bool
  ups = all_below (length row - 1) (λ i. ltb (get_or row i 0) (get_or row (suc i) 0))

  passes : (lows && ups) ≡ true
  passes = all_below_lem k (row_passes rows) p P.passed low

  pub row_low : (i : ℕ) → i < length row → get_or row i 0 < k
  row_low i h =
      omega (
        arith,
        children_long w starts children k c,
        ltb-true (get_or row i 0) (length rows) (all_below_lem (length row) (λ j. ltb (get_or row j 0) (length rows)) i (and_left lows ups passes) h),
      )

  pub row_up : (i : ℕ) → suc i < length row → get_or row i 0 < get_or row (suc i) 0
  row_up i h =
      ltb-true (get_or row i 0) (get_or row (suc i) 0)
      (all_below_lem (length row - 1) (λ j. ltb (get_or row j 0) (get_or row (suc j) 0)) i (and_right lows ups passes) (omega arith))

pub child_low : {w k c p from len i q : ℕ} {starts children : List ℕ} → Places w starts children k c → Row w starts k c p from len
    → i < len
    → q ≡ num_at w children (from + i)
    → q < k
child_low {i = i} P R h e = omega (arith, row_low P R.low i (omega (arith, row_has P.entries R)), child_was P.entries R h e)
