-- Laid-out rows one after the other are the values: what holds of the values holds of the rows, and the other way round.
use mathlib.Core.Bool.{true}
use mathlib.Core.Path.{◌≡◌, ap, ◌∙◌}
use mathlib.Core.List.{List, ◌++◌}
use Prim.Native.Nat.{ℕ, zero, suc, ◌+◌, ◌-◌, ◌≤◌, ◌<◌}
use native.Mathlib.Decide.{dec_lt, le_ind}
use native.Mathlib.Omega.{arith}
use lib.ListN.{length, get_or, take, drop, length-append, length-take, length-drop, get_or-append}
use lib.Seq.{get_or-take, get_or-drop, get_or-append-add, take-add, take_all}
use Rattle.lineage.specs.Lists.{among, position, part}
use Rattle.lineage.specs.Stored.{row_at}
use Rattle.laws.proofs.Positions.{position_low, at_position, in_get_d}
use Rattle.laws.specs.Laid.{Below, Laid, Rows}

-- a list of two parts
pub below_append : (n : ℕ) (a b : List ℕ) → Below n a → Below n b → Below n (a ++ b)
below_append n a b la lb i h = at (dec_lt i (length a))
  where
    at : Dec (i < length a) → get_or (a ++ b) i 0 < n
    at (yes l) = rw (get_or-append a b 0 i l) (la i l)
    at (no l) =
        let e : i ≡ length a + (i - length a) = omega arith in
        rw (e, get_or-append-add a b (i - length a) 0) (lb (i - length a) (omega (arith, length-append a b)))

-- a part of numbers below n
pub part_below : (n : ℕ) (xs : List ℕ) (a b : ℕ) → Below n xs → Below n (part xs a b)
unfolding part
part_below n xs a b low i h =
    let l : i < b = omega (arith, length-take b (drop a xs)) in
    rw (get_or-take b (drop a xs) i 0 l, get_or-drop a xs i 0) (low (a + i) (omega (arith, length-take b (drop a xs), length-drop a xs)))

module _ {starts values : List ℕ} {n : ℕ} (laid : Laid starts values n) where
  pub starts_rise : (x y : ℕ) → x ≤ y → y ≤ n → get_or starts x 0 ≤ get_or starts y 0
  starts_rise x y h l = le_ind (λ m. m ≤ n → get_or starts x 0 ≤ get_or starts m 0) (λ z. omega arith) (λ m i ih z. omega (arith, ih (omega arith), laid.rising m z)) y h l

  pub start_low : (x : ℕ) → x ≤ n → get_or starts x 0 ≤ length values
  start_low x h = omega (arith, starts_rise x n h (omega arith), laid.last)

  -- the values up to a row's end
  pub take_row : (x : ℕ) → x < n → take (get_or starts (suc x) 0) values ≡ take (get_or starts x 0) values ++ row_at starts values x
  unfolding row_at part
  take_row x h =
      let e : get_or starts (suc x) 0 ≡ get_or starts x 0 + (get_or starts (suc x) 0 - get_or starts x 0) = omega (arith, laid.rising x h) in
      ap (λ z. take z values) e ∙ take-add (get_or starts x 0) (get_or starts (suc x) 0 - get_or starts x 0) values

  -- the numbers of a row are below b where the values are, and the values where those of every row are
  pub row_below : (b : ℕ) → Below b values → (x : ℕ) → x < n → Below b (row_at starts values x)
  unfolding row_at
  row_below b low x h = part_below b values (get_or starts x 0) (get_or starts (suc x) 0 - get_or starts x 0) low

  pub rows_below : (b : ℕ) → ((x : ℕ) → x < n → Below b (row_at starts values x)) → Below b values
  rows_below b low = rw (take_all (get_or starts n 0) values (omega (arith, laid.last))) at (up_to n (omega arith))
    where
      up_to : (x : ℕ) → x ≤ n → Below b (take (get_or starts x 0) values)
      up_to zero h = rw laid.first (λ i l. absurd (omega arith))
      up_to (suc x) h = rw (take_row x h) (below_append b (take (get_or starts x 0) values) (row_at starts values x) (up_to x (omega arith)) (low x h))

-- a number of a list of numbers below n
pub below_in : (n : ℕ) (xs : List ℕ) → Below n xs → (v : ℕ) → among v xs ≡ true → v < n
below_in n xs low v h = rw (at_position v xs h) at (low (position v xs) (position_low v xs h))

pub in_below : (n : ℕ) (xs : List ℕ) → ((v : ℕ) → among v xs ≡ true → v < n) → Below n xs
in_below n xs low i h = low (get_or xs i 0) (in_get_d xs i h)

-- the values of rows whose numbers are below b
pub values_below : {starts values : List ℕ} {n : ℕ} {row : ℕ → List ℕ} → Rows starts values n row → (b : ℕ) → ((x v : ℕ) → x < n → among v (row x) ≡ true → v < b) → Below b values
values_below {row = row} r b low = rows_below r.laid b (λ x h. rw (r.row_is x h) (in_below b (row x) (λ v i. low x v h i)))
