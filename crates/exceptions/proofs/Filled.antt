-- The lists of sound bytes, from what the code has at its end: their count, the room, and the written output.
use Rattle.std.specs.Prelude.{Ok, Err}
use mathlib.Core.Path.{◌≡◌, sym, ap, ap₂, ◌∙◌}
use mathlib.Core.List.{List}
use Prim.Native.Nat.{ℕ, ◌+◌, ◌*◌, ◌≤◌, ◌<◌}
use native.Mathlib.Omega.{arith}
use lib.ListN.{length}
use borrow.Author.Tests.{lt-ltb, le-ltb}
use Rattle.lineage.specs.Lists.{joined}
use Rattle.lineage.specs.Index.{Index}
use Rattle.lineage.specs.Numbers.{num_at}
use Rattle.lineage.specs.Calls.{answered}
use Rattle.laws_exceptions.specs.Exceptions.{exception_rows, exception_numbers, encode_exceptions}
use Rattle.laws_exceptions.proofs.Rows.{rows_few, numbers_small}
use Rattle.numbers.specs.Put.{put}
use Rattle.numbers.proofs.Put.{put_start}
use Rattle.numbers.proofs.Written.{written_long, written_at}
use Rattle.exceptions_lists.proofs.Ends.{entries_long, entries_count}
use Rattle.exceptions_lists.proofs.Matched.{numbers_count, number_1}
use Rattle.exceptions.specs.Calls.{list_counts}
use Rattle.refusals.specs.declared.Refusal.TheVariants.{OutputShort}
use Rattle.exceptions.specs.Written.{Fills}

module _ (I : Index) {k : ℕ} (many : length I.groups ≡ k) (few : k ≤ 4096) where
  -- the entries are few, and with them the bytes
  pub entries_most : length (joined (exception_rows I)) ≤ 4096 * 4096
  entries_most = omega (arith, entries_count I (length I.groups) (omega arith), rows_few I 4096 (length I.groups) (omega arith), entries_long I (length I.groups))

  bytes_are_lem : length (encode_exceptions I) ≡ 4 * (k + 3 + length (joined (exception_rows I)))
  unfolding encode_exceptions
  bytes_are_lem = written_long 4 (exception_numbers I) ∙ omega (arith, numbers_count I, entries_count I (length I.groups) (omega arith), many)

  module _ {entries needed : ℕ} (count : entries ≡ length (joined (exception_rows I))) (is : needed ≡ 4 * (k + 3 + entries)) where
    needed_is : needed ≡ length (encode_exceptions I)
    needed_is = omega (arith, bytes_are_lem)

    -- too short an output, or room for all
    pub build_short : {out : List ℕ} → length out < needed → Fills (encode_exceptions I) out (Err (OutputShort needed)) out
    build_short {out} h =
        let short = lt-ltb (length out) (length (encode_exceptions I)) (omega (arith, needed_is)) in
        record { answers = rw (needed_is, short); writes = rw short }

    pub build_done : {out out' : List ℕ} → needed ≤ length out → out' ≡ put out 0 (encode_exceptions I) → Fills (encode_exceptions I) out (Ok needed) out'
    build_done {out} h e =
        let room = le-ltb (length out) (length (encode_exceptions I)) (omega (arith, needed_is)) in
        record { answers = rw (needed_is, room); writes = e ∙ put_start out (encode_exceptions I) ∙ rw room }

  -- lists that belong begin with k and the number of entries
  module _ {lists : List ℕ} (are : lists ≡ encode_exceptions I) where
    pub lists_read : 4 * 1 + 4 ≤ length lists
    lists_read = omega (arith, ap length are, bytes_are_lem)

    pub entries_read : {v : ℕ} → v ≡ num_at 4 lists 1 → v ≡ length (joined (exception_rows I))
    unfolding encode_exceptions
    entries_read e =
        e
        ∙ ap (λ (z : List ℕ). num_at 4 z 1) are
        ∙ written_at 4 (exception_numbers I) 1 (numbers_small I (omega arith)) (omega (arith, numbers_count I))
        ∙ number_1 I
        ∙ entries_count I (length I.groups) (omega arith)

    pub counts_are : {v : ℕ} → v ≡ num_at 4 lists 1 → answered (record { groups = k; entries = v }) ≡ answered (list_counts I)
    counts_are e = ap₂ (λ (g v : ℕ). answered (record { groups = g; entries = v })) (sym many) (entries_read e)
