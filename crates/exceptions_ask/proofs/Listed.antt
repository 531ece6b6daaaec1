-- In the stored lists of an index, list x is what the index's list is, and lies where its start says; so a place found in it by halves is an exception of x, and what is
-- contained and not found is reached.
use mathlib.Core.Bool.{Bool, false, not, ◌&&◌}
use mathlib.Core.Path.{◌≡◌, sym, ap, ap₂, ◌∙◌}
use mathlib.Core.List.{List}
use Prim.Native.Nat.{ℕ, ◌+◌, ◌-◌, ◌*◌, ◌/◌, ◌≤◌, ◌<◌}
use native.Mathlib.Omega.{arith}
use lib.Dec.{eqb, ltb}
use lib.ListN.{length, get_or}
use lib.Seq.{ext_get_or}
use borrow.Author.Tests.{eqb-true, eq-eqb, ltb-true, lt-ltb, le-ltb}
use Rattle.lineage.specs.Lists.{among, part}
use Rattle.lineage.specs.Index.{Index}
use Rattle.lineage.specs.Numbers.{num_at, numbers}
use Rattle.lineage.specs.Question.{place_in}
use Rattle.laws.specs.Rising.{Rises, count_below}
use Rattle.laws.proofs.Tests.{and_both, both}
use Rattle.laws_same.proofs.Lineage.{tests_same}
use Rattle.laws_exceptions.specs.Exceptions.{contains, exceptions_of, entries_of, exception_numbers, encode_exceptions, says_by_exceptions}
use Rattle.laws_exceptions.proofs.Entries.{entries_rise, among_entry}
use Rattle.laws_exceptions.proofs.Rows.{rows_few, numbers_small}
use Rattle.numbers.specs.Regions.{Part}
use Rattle.numbers.proofs.Numbers.{num_part, numbers_long, numbers_at, count_most}
use Rattle.numbers.proofs.Written.{written_long, written_at}
use Rattle.exceptions_lists.specs.Lists.{entries_to}
use Rattle.exceptions_lists.proofs.Ends.{entries_long, entries_more, entries_up, entry_among}
use Rattle.exceptions_lists.proofs.Matched.{numbers_count, number_start, number_entry}
use Rattle.exceptions_ask.specs.Listed.{start_in, long_in, list_in, has_place, ListIn}

module _
    (I : Index) {lists : List ℕ} {k : ℕ} (are : lists ≡ encode_exceptions I) (many : length I.groups ≡ k) (few : k ≤ 4096) {x : ℕ} (low : x < k)
  where
    number_at : (i : ℕ) → i < length (exception_numbers I) → num_at 4 lists i ≡ get_or (exception_numbers I) i 0
    unfolding encode_exceptions
    number_at i h = ap (λ (z : List ℕ). num_at 4 z i) are ∙ written_at 4 (exception_numbers I) i (numbers_small I (omega arith)) h

    long : length lists ≡ 4 * (k + 3 + entries_to I k)
    unfolding encode_exceptions
    long = ap length are ∙ written_long 4 (exception_numbers I) ∙ omega (arith, numbers_count I, ap (entries_to I) many)

    -- the lists up to x have few entries, and no more than all
    few_entries : entries_to I (x + 1) ≤ 4096 * 4096
    few_entries = omega (arith, entries_long I (x + 1), rows_few I 4096 (x + 1) (omega arith))

    up : entries_to I (x + 1) ≤ entries_to I k
    up = entries_up I (x + 1) k (omega arith)

    count : length (exception_numbers I) ≡ k + 3 + entries_to I k
    count = numbers_count I ∙ ap (λ (z : ℕ). z + 3 + entries_to I z) many

    start_is : start_in lists x ≡ entries_to I x
    start_is = number_at (x + 2) (omega (arith, count)) ∙ number_start I x (omega arith)

    next_is : num_at 4 lists (x + 3) ≡ entries_to I (x + 1)
    next_is =
        let three : x + 3 ≡ x + 1 + 2 = omega arith in
        number_at (x + 3) (omega (arith, count)) ∙ ap (λ (z : ℕ). get_or (exception_numbers I) z 0) three ∙ number_start I (x + 1) (omega arith)

    long_is : long_in lists x ≡ length (entries_of I x)
    long_is = omega (arith, start_is, next_is, entries_more I x)

    -- list x is the entries of x
    pub list_is_lem : list_in lists k x ≡ entries_of I x
    unfolding list_in
    list_is_lem =
        ext_get_or 0 (list_in lists k x) (entries_of I x) (numbers_long 4 (part lists (4 * (k + 3 + start_in lists x)) (4 * long_in lists x)) (long_in lists x) ∙ long_is)
        (λ j h.
        let l : j < long_in lists x = omega (arith, numbers_long 4 (part lists (4 * (k + 3 + start_in lists x)) (4 * long_in lists x)) (long_in lists x)) in
        let here : k + 3 + start_in lists x + j ≡ length I.groups + 3 + (entries_to I x + j) = omega (arith, start_is) in
        numbers_at 4 (part lists (4 * (k + 3 + start_in lists x)) (4 * long_in lists x)) (long_in lists x) j l
        ∙ num_part 4 lists (k + 3 + start_in lists x) (long_in lists x) j l
        ∙ ap (num_at 4 lists) here
        ∙ number_at (length I.groups + 3 + (entries_to I x + j)) (omega (arith, count, long_is, entries_more I x, up))
        ∙ number_entry I (entries_to I x + j)
        ∙ entry_among I x (length I.groups) j (omega arith) (omega (arith, long_is)))

    pub list_in_lem : ListIn lists k x
    list_in_lem = record {
      few = few;
      low = low;
      head = omega (arith, long);
      ends = omega (arith, start_is, next_is, entries_more I x);
      most = omega (arith, next_is, few_entries);
      within = omega (arith, long, next_is, up);
      rises = rw list_is_lem (entries_rise I x);
    }

    -- what is found in it is an exception
    has_place_lem : (y : ℕ) → has_place y (list_in lists k x) ≡ among y (exceptions_of I x)
    has_place_lem y =
        ap (has_place y) list_is_lem
        ∙ tests_same (has_place y (entries_of I x)) (among y (exceptions_of I x)) (
          (λ t.
              let (l, e) = both (ltb (count_below (2 * y) (entries_of I x)) (length (entries_of I x))) _ t in
              (among_entry I x y).1 (ltb-true _ _ l, eqb-true _ y e)),
          λ i. let (l, e) = (among_entry I x y).0 i in and_both (lt-ltb _ _ l) (eq-eqb _ y e),
        )

    -- so contained and not found is what the question says
    pub says_by : (u v : ℕ) {y : ℕ} → x ≡ place_in I u → y ≡ place_in I v → {r : Bool} → r ≡ (contains I x y && not (has_place y (list_in lists k x))) → r ≡ says_by_exceptions I u v
    unfolding says_by_exceptions
    says_by u v {y} ex ey e = e ∙ ap (λ (b : Bool). contains I x y && not b) (has_place_lem y) ∙ ap₂ (λ (p q : ℕ). contains I p q && not (among q (exceptions_of I p))) ex ey

-- what was read of a stored list: its start, where the next begins, and its numbers
module _
    {lists : List ℕ} {k x : ℕ} (L : ListIn lists k x) {start next : ℕ} (es : start ≡ start_in lists x) (en : next ≡ num_at 4 lists (x + 3)) {list : List ℕ}
    (P : Part lists (4 * (k + 3 + start)) (4 * (next - start)) list)
  where
    listed_is : numbers 4 list (next - start) ≡ list_in lists k x
    unfolding list_in
    listed_is =
        ap (λ (z : List ℕ). numbers 4 z (next - start)) P.is
        ∙ ap₂ (λ (s t : ℕ). numbers 4 (part lists (4 * (k + 3 + s)) (4 * (t - s))) (t - s)) es en

    pub listed_rises : Rises (numbers 4 list (next - start))
    listed_rises = rw listed_is L.rises

    module _ (y : ℕ) {j : ℕ} (found : j ≡ count_below (2 * y) (numbers 4 list (next - start))) where
      long_list : length (list_in lists k x) ≡ next - start
      long_list = sym (ap length listed_is) ∙ numbers_long 4 list (next - start)

      found_here : j ≡ count_below (2 * y) (list_in lists k x)
      found_here = found ∙ ap (count_below (2 * y)) listed_is

      -- behind the end, or at a number
      pub found_nowhere : j ≡ next - start → false ≡ has_place y (list_in lists k x)
      found_nowhere e = rw (le-ltb (count_below (2 * y) (list_in lists k x)) (length (list_in lists k x)) (omega (arith, found_here, long_list)))

      pub found_below : (j ≡ next - start → ⊥) → j < next - start
      found_below n = omega (arith, found, count_most 4 (next - start) list (2 * y))

      pub found_at : (j ≡ next - start → ⊥) → {v : ℕ} → v ≡ num_at 4 list j → eqb (v / 2) y ≡ has_place y (list_in lists k x)
      found_at n {v} e =
          let at : v ≡ get_or (list_in lists k x) (count_below (2 * y) (list_in lists k x)) 0 =
          e ∙ sym (numbers_at 4 list (next - start) j (found_below n)) ∙ ap₂ (λ (z : List ℕ) (i : ℕ). get_or z i 0) listed_is found_here in
          rw (lt-ltb (count_below (2 * y) (list_in lists k x)) (length (list_in lists k x)) (omega (arith, found_here, long_list, found_below n)), ← at)
