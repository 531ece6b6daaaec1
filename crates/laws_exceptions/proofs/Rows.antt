-- The lists row by row. A list starts behind the entries of all lists before it. No list is longer than there are groups, so within the bounds of form 1 every stored
-- number is below 2^32.
use mathlib.Core.Path.{◌≡◌, refl, ap, ◌∙◌}
use mathlib.Core.List.{List, [], ◌∷◌, ◌++◌, map}
use Prim.Native.Nat.{ℕ, zero, suc, ◌+◌, ◌*◌, ◌^◌, ◌<◌, ◌≤◌}
use native.Mathlib.Nat.{mul-suc, not-suc-le-zero}
use native.Mathlib.Omega.{arith}
use lib.ListN.{length, get_or, take, length-map, length-append}
use Rattle.lineage.specs.Lists.{upto, joined, Every}
use Rattle.lineage.specs.Index.{Index}
use Rattle.lineage.specs.Stored.{starts_from}
use Rattle.laws.proofs.Lists.{length_upto, table_long}
use Rattle.laws.proofs.Rising.{those_short}
use Rattle.laws.proofs.Every.{every_from, every_append, every_joined, every_mapped, every_table}
use Rattle.laws_exceptions.specs.Exceptions.{is_exception, exceptions_of, entry, entries_of, exception_rows, exception_numbers}
use Rattle.laws_exceptions.proofs.Exceptions.{listed_exactly}
use Rattle.laws_exceptions.proofs.Entries.{entry_high}
use Rattle.laws_exceptions.proofs.Through.{take_upto}

-- the first of a table
take_map : {A : Type 0} (f : ℕ → A) (i : ℕ) (xs : List ℕ) → take i (map f xs) ≡ map f (take i xs)
take_map f zero xs = refl
take_map f (suc i) [] = refl
take_map f (suc i) (x ∷ xs) = ap (f x ∷◌) (take_map f i xs)

-- a row starts behind all before it
start_of : (at : ℕ) (rows : List (List ℕ)) (i : ℕ) → i ≤ length rows → get_or (starts_from at rows) i 0 ≡ at + length (joined (take i rows))
start_of at [] zero h = omega arith
start_of at [] (suc i) h = absurd (not-suc-le-zero h)
start_of at (r ∷ rows) zero h = omega arith
start_of at (r ∷ rows) (suc i) h = omega (arith, start_of (at + length r) rows i (omega arith), length-append r (joined (take i rows)))

-- rows of at most m numbers
joined_few : (m : ℕ) (rows : List (List ℕ)) → Every (λ r. length r ≤ m) rows → length (joined rows) ≤ m * length rows
joined_few m [] h = omega arith
joined_few m (r ∷ rows) h = omega (arith, length-append r (joined rows), joined_few m rows h.1, h.0, mul-suc m (length rows))

-- no start is behind the last entry
starts_most : (at : ℕ) (rows : List (List ℕ)) → Every (λ z. z ≤ at + length (joined rows)) (starts_from at rows)
starts_most at [] = (omega arith, tt)
starts_most at (r ∷ rows) = (
  omega arith,
  every_from (λ z. z ≤ at + length r + length (joined rows)) (λ z. z ≤ at + length (r ++ joined rows)) (λ z h. omega (arith, h, length-append r (joined rows)))
      (starts_from (at + length r) rows) (starts_most (at + length r) rows),
)

module _ (I : Index) where
  abbrev k : ℕ
  k = length I.groups

  -- the rows of the first x places
  abbrev pub rows_to : ℕ → List (List ℕ)
  rows_to x = map (entries_of I) (upto x)

  -- the start of a list
  pub start_is : (n x : ℕ) → x ≤ n → get_or (starts_from 0 (rows_to n)) x 0 ≡ length (joined (rows_to x))
  start_is n x h =
      omega (
        arith,
        start_of 0 (rows_to n) x (omega (arith, table_long (entries_of I) n)),
        ap (λ (z : List (List ℕ)). length (joined z)) (take_map (entries_of I) x (upto n) ∙ ap (map (entries_of I)) (take_upto x n h)),
      )

  -- no list is longer than there are groups
  pub row_few : (x : ℕ) → length (entries_of I x) ≤ k
  unfolding exceptions_of
  row_few x = omega (arith, length-map (exceptions_of I x) (entry I x), those_short (is_exception I x) (upto k), length_upto k)

  -- so there are at most k entries for each place
  pub rows_few : (m x : ℕ) → k ≤ m → length (joined (rows_to x)) ≤ m * x
  rows_few m x h =
      omega (
        arith,
        ap (λ (z : ℕ). m * z) (table_long (entries_of I) x),
        joined_few m (rows_to x) (every_table (λ r. length r ≤ m) (entries_of I) x (λ i l. omega (arith, row_few i))),
      )

  -- within form 1 every stored number is a 32-bit number
  pub numbers_small : k ≤ 4096 → Every (λ z. z < 256 ^ 4) (exception_numbers I)
  unfolding exception_numbers exception_rows
  numbers_small h =
      let few : length (joined (rows_to k)) ≤ 4096 * k = rows_few 4096 k h in (
        omega arith,
        (
          omega arith,
          every_append (λ z. z < 256 ^ 4) (starts_from 0 (rows_to k)) (joined (rows_to k))
              (every_from (λ z. z ≤ 0 + length (joined (rows_to k))) (λ z. z < 256 ^ 4) (λ z l. omega (arith, l, few)) (starts_from 0 (rows_to k)) (starts_most 0 (rows_to k)))
              (every_joined (λ z. z < 256 ^ 4) (rows_to k) (every_table (Every (λ z. z < 256 ^ 4)) (entries_of I) k (λ x l. every_mapped (λ z. z < 256 ^ 4) (entry I x) (exceptions_of I x)
              (λ y i. omega (arith, entry_high I x y, ((listed_exactly I x y).0 i).0))))),
        ),
      )
