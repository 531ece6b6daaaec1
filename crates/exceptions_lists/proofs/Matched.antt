-- Stored bytes are the lists of an index exactly where they are as many as these take, begin with k, the number of entries and 0, and each list stands and ends where it
-- should: for those are all numbers of the lists, and bytes that are read as them are theirs.
use mathlib.Core.Bool.{Bool, true, false, ◌&&◌}
use mathlib.Core.Path.{◌≡◌, refl, sym, ap, ◌∙◌}
use mathlib.Core.List.{List, ◌++◌}
use Prim.Native.Nat.{ℕ, zero, suc, ◌+◌, ◌-◌, ◌*◌, ◌≤◌, ◌<◌}
use native.Mathlib.Decide.{dec_lt}
use native.Mathlib.Numerals.{add-one}
use native.Mathlib.Omega.{arith}
use lib.Dec.{eqb, leb}
use lib.ListN.{length, get_or, length-append, get_or-append}
use lib.Seq.{get_or-append-add}
use borrow.Author.Tests.{eqb-true, eq-eqb, le-leb}
use Rattle.lineage.specs.Lists.{all_below, same_list}
use Rattle.lineage.specs.Index.{Index}
use Rattle.lineage.specs.Numbers.{num_at}
use Rattle.lineage.specs.Stored.{starts_from}
use Rattle.laws.proofs.Tests.{and_both, both, is_false}
use Rattle.laws.proofs.Lists.{all_from, all_below_lem, table_long}
use Rattle.laws.proofs.Joined.{joined_more}
use Rattle.laws.proofs.Starts.{starts_long}
use Rattle.laws_same.proofs.Lineage.{tests_same}
use Rattle.laws_exceptions.specs.Exceptions.{entries_of, exception_rows, exception_numbers, encode_exceptions}
use Rattle.laws_exceptions.proofs.Rows.{rows_to, start_is, numbers_small}
use Rattle.numbers.proofs.Written.{Bytes}
use Rattle.exceptions_rows.specs.Rows.{agrees, stands}
use Rattle.exceptions_lists.specs.Lists.{entries_to, list_stands}
use Rattle.exceptions_lists.proofs.Matches.{matches_exactly}
use Rattle.exceptions_lists.proofs.Ends.{entries_in, entries_long, entries_none, entries_more, entries_up, entry_among}

module _ (I : Index) where
  abbrev k : ℕ
  k = length I.groups

  abbrev all : List ℕ
  all = exception_numbers I

  -- the numbers of the lists, one by one
  pub numbers_count : length all ≡ k + 3 + entries_to I k
  unfolding exception_numbers exception_rows
  numbers_count =
      omega (arith, length-append (starts_from 0 (rows_to I k)) (entries_in I k), starts_long 0 (rows_to I k), table_long (entries_of I) k, entries_long I k)

  pub number_0 : get_or all 0 0 ≡ k
  unfolding exception_numbers
  number_0 = refl

  pub number_1 : get_or all 1 0 ≡ entries_to I k
  unfolding exception_numbers exception_rows
  number_1 = entries_long I k

  pub number_start : (i : ℕ) → i ≤ k → get_or all (i + 2) 0 ≡ entries_to I i
  unfolding exception_numbers exception_rows
  number_start i h =
      let two : i + 2 ≡ suc (suc i) = omega arith in
      ap (λ (z : ℕ). get_or all z 0) two
      ∙ get_or-append (starts_from 0 (rows_to I k)) (entries_in I k) 0 i (omega (arith, starts_long 0 (rows_to I k), table_long (entries_of I) k))
      ∙ start_is I (length I.groups) i h
      ∙ entries_long I i

  pub number_entry : (j : ℕ) → get_or all (k + 3 + j) 0 ≡ get_or (entries_in I k) j 0
  unfolding exception_numbers exception_rows
  number_entry j =
      let behind : k + 3 + j ≡ suc (suc (length (starts_from 0 (rows_to I k)) + j)) = omega (arith, starts_long 0 (rows_to I k), table_long (entries_of I) k) in
      ap (λ (z : ℕ). get_or all z 0) behind ∙ get_or-append-add (starts_from 0 (rows_to I k)) (entries_in I k) j 0

module _ (I : Index) (lists : List ℕ) (bytes : Bytes lists) (few : length I.groups ≤ 4096) where
  abbrev Same : Type 0
  Same = same_list lists (encode_exceptions I) ≡ true

  abbrev Right : Type 0
  Right = (length lists ≡ 4 * length (all I)) × ((i : ℕ) → i < length (all I) → num_at 4 lists i ≡ get_or (all I) i 0)

  right : Same → Right
  unfolding encode_exceptions
  right = (matches_exactly 4 lists (all I) bytes (numbers_small I few)).0

  same : Right → Same
  unfolding encode_exceptions
  same = (matches_exactly 4 lists (all I) bytes (numbers_small I few)).1

  -- too short, not as long as the number of entries says, another k, another first start
  pub not_short : length lists < 4 * (k I + 3) → false ≡ same_list lists (encode_exceptions I)
  not_short h = sym (is_false (same_list lists (encode_exceptions I)) (λ t. omega (arith, (right t).0, numbers_count I)))

  pub not_long : {v : ℕ} → v ≡ num_at 4 lists 1 → (length lists ≡ 4 * (k I + 3 + v) → ⊥) → false ≡ same_list lists (encode_exceptions I)
  not_long e n =
      sym (is_false (same_list lists (encode_exceptions I))
      (λ t.
      let (l, each) = right t in
      n (omega (arith, e, l, each 1 (omega (arith, numbers_count I)), number_1 I, numbers_count I))))

  pub not_count : {v : ℕ} → v ≡ num_at 4 lists 0 → (v ≡ k I → ⊥) → false ≡ same_list lists (encode_exceptions I)
  not_count e n =
      sym (is_false (same_list lists (encode_exceptions I)) (λ t. n (e ∙ (right t).1 0 (omega (arith, numbers_count I)) ∙ number_0 I)))

  pub not_first : {v : ℕ} → v ≡ num_at 4 lists 2 → (v ≡ 0 → ⊥) → false ≡ same_list lists (encode_exceptions I)
  not_first e n =
      sym (is_false (same_list lists (encode_exceptions I))
      (λ t. n (e ∙ (right t).1 2 (omega (arith, numbers_count I)) ∙ number_start I 0 (omega arith) ∙ entries_none I)))

  -- behind these, list by list
  module _
      {most : ℕ} (size : length lists ≡ 4 * most) (told : most ≡ k I + 3 + num_at 4 lists 1) (count : num_at 4 lists 0 ≡ k I) (first : num_at 4 lists 2 ≡ 0)
    where
      abbrev stand : Bool
      stand = all_below (k I) (list_stands I lists (k I + 3) most)

      abbrev last : Bool
      last = eqb (k I + 3 + entries_to I (k I)) most

      -- one list stands, and ends where it should
      stands_so : stand ≡ true → (x : ℕ) → x < k I
          → (stands lists (k I + 3 + entries_to I x) most (entries_of I x) ≡ true) × (eqb (num_at 4 lists (x + 3)) (entries_to I (x + 1)) ≡ true)
      stands_so t x h =
          both (stands lists (k I + 3 + entries_to I x) most (entries_of I x)) (eqb (num_at 4 lists (x + 3)) (entries_to I (x + 1)))
          (all_below_lem (k I) (list_stands I lists (k I + 3) most) x t h)

      -- where each stands, all entries agree
      entries_agree : stand ≡ true → (n : ℕ) → n ≤ k I → (j : ℕ) → j < entries_to I n → num_at 4 lists (k I + 3 + j) ≡ get_or (entries_in I n) j 0
      entries_agree t zero h j l = absurd (omega (arith, entries_none I))
      entries_agree t (suc n) h j l =
          let more : entries_to I (suc n) ≡ entries_to I n + length (entries_of I n) = rw (← add-one n) (entries_more I n) in
          let row = (both (leb (k I + 3 + entries_to I n + length (entries_of I n)) most) (agrees lists (k I + 3 + entries_to I n) (entries_of I n)) (stands_so t n h).0).1 in
          elim (dec_lt j (entries_to I n)) [
            | yes below ↦
                entries_agree t n (omega arith) j below ∙ sym (get_or-append (entries_in I n) (entries_of I n) 0 j (omega (arith, entries_long I n)))
            | no not ↦
                let i : ℕ = j - entries_to I n in
                let here : k I + 3 + j ≡ k I + 3 + entries_to I n + i = omega arith in
                let there : j ≡ length (entries_in I n) + i = omega (arith, entries_long I n) in
                ap (num_at 4 lists) here
                ∙ eqb-true (num_at 4 lists (k I + 3 + entries_to I n + i)) (get_or (entries_of I n) i 0)
                (all_below_lem (length (entries_of I n)) (λ z. eqb (num_at 4 lists (k I + 3 + entries_to I n + z)) (get_or (entries_of I n) z 0)) i row (omega arith))
                ∙ sym (ap (λ (z : ℕ). get_or (entries_in I n ++ entries_of I n) z 0) there ∙ get_or-append-add (entries_in I n) (entries_of I n) i 0)
          ]
          ∙ sym (ap (λ (z : List ℕ). get_or z j 0) (joined_more (entries_of I) n))

      starts_agree : stand ≡ true → (i : ℕ) → i ≤ k I → num_at 4 lists (i + 2) ≡ entries_to I i
      starts_agree t zero h = first ∙ sym (entries_none I)
      starts_agree t (suc x) h =
          let three : suc x + 2 ≡ x + 3 = omega arith in
          ap (num_at 4 lists) three
          ∙ eqb-true (num_at 4 lists (x + 3)) (entries_to I (x + 1)) (stands_so t x h).1
          ∙ ap (entries_to I) (add-one x)

      stand_right : stand ≡ true → last ≡ true → Right
      stand_right t e =
          let whole : k I + 3 + entries_to I (k I) ≡ most = eqb-true (k I + 3 + entries_to I (k I)) most e in (
            omega (arith, numbers_count I),
            each whole,
          )
        where
          each : k I + 3 + entries_to I (k I) ≡ most → (i : ℕ) → i < length (all I) → num_at 4 lists i ≡ get_or (all I) i 0
          each whole zero h = count ∙ sym (number_0 I)
          each whole (suc zero) h = omega (arith, told, number_1 I)
          each whole (suc (suc i)) h =
              elim (dec_lt i (k I + 1)) [
                | yes low ↦
                    let two : suc (suc i) ≡ i + 2 = omega arith in
                    ap (num_at 4 lists) two ∙ starts_agree t i (omega arith) ∙ sym (ap (λ (z : ℕ). get_or (all I) z 0) two ∙ number_start I i (omega arith))
                | no high ↦
                    let j : ℕ = i - (k I + 1) in
                    let here : suc (suc i) ≡ k I + 3 + j = omega arith in
                    ap (num_at 4 lists) here
                    ∙ entries_agree t (k I) (omega arith) j (omega (arith, numbers_count I))
                    ∙ sym (ap (λ (z : ℕ). get_or (all I) z 0) here ∙ number_entry I j)
              ]

      -- and the other way round
      right_stands : Right → (x : ℕ) → x < k I → list_stands I lists (k I + 3) most x ≡ true
      right_stands (l, each) x h =
          let most-is : most ≡ k I + 3 + entries_to I (k I) = omega (arith, each 1 (omega (arith, numbers_count I)), number_1 I) in
          let up = entries_up I (x + 1) (k I) (omega arith) in
          and_both
          (and_both
          (le-leb (k I + 3 + entries_to I x + length (entries_of I x)) most (omega (arith, entries_more I x)))
          (all_from (length (entries_of I x)) (λ j. eqb (num_at 4 lists (k I + 3 + entries_to I x + j)) (get_or (entries_of I x) j 0))
          (λ j b. eq-eqb _ _ (entry_is j b))))
          (eq-eqb (num_at 4 lists (x + 3)) (entries_to I (x + 1)) start_agrees)
        where
          entry_is : (j : ℕ) → j < length (entries_of I x) → num_at 4 lists (k I + 3 + entries_to I x + j) ≡ get_or (entries_of I x) j 0
          entry_is j b =
              let here : k I + 3 + entries_to I x + j ≡ k I + 3 + (entries_to I x + j) = omega arith in
              ap (num_at 4 lists) here
              ∙ each (k I + 3 + (entries_to I x + j)) (omega (arith, numbers_count I, entries_more I x, entries_up I (x + 1) (k I) (omega arith)))
              ∙ number_entry I (entries_to I x + j)
              ∙ entry_among I x (k I) j h b

          start_agrees : num_at 4 lists (x + 3) ≡ entries_to I (x + 1)
          start_agrees =
              let three : x + 3 ≡ x + 1 + 2 = omega arith in
              each (x + 3) (omega (arith, numbers_count I)) ∙ ap (λ (z : ℕ). get_or (all I) z 0) three ∙ number_start I (x + 1) (omega arith)

      -- so they are told list by list, of as many groups as there are
      pub lists_by_lem :
          {r : Bool} (n : ℕ) → k I ≡ n → r ≡ (all_below n (list_stands I lists (n + 3) most) && eqb (n + 3 + entries_to I n) most) → r ≡ same_list lists (encode_exceptions I)
      lists_by_lem n many e =
          rw (← many) at e
          ∙ tests_same (stand && last) (same_list lists (encode_exceptions I)) (
            (λ t. let (s, m) = both stand last t in same (stand_right s m)),
            λ t.
                let R = right t in
                and_both (all_from (k I) (list_stands I lists (k I + 3) most) (right_stands R))
                (eq-eqb (k I + 3 + entries_to I (k I)) most (omega (arith, R.1 1 (omega (arith, numbers_count I)), number_1 I))),
          )
