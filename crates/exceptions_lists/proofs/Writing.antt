-- Lists written one after the other, and behind each where it ends: two stretches that grow side by side, apart from each other, and in the end are one.
use mathlib.Core.Path.{◌≡◌, refl, sym, ap, ap₂, ◌∙◌}
use mathlib.Core.List.{List, [], ◌∷◌, ◌++◌}
use Prim.Native.Nat.{ℕ, ◌+◌, ◌-◌, ◌*◌, ◌≤◌, ◌<◌}
use native.Mathlib.Omega.{arith}
use native.Mathlib.Nat.{add-zero}
use lib.ListN.{length}
use Rattle.lineage.specs.Lists.{joined}
use Rattle.lineage.specs.Index.{Index}
use Rattle.lineage.specs.Numbers.{le_bytes, written}
use Rattle.laws_exceptions.specs.Exceptions.{entries_of, exception_rows, exception_numbers, encode_exceptions}
use Rattle.numbers.specs.Put.{put}
use Rattle.numbers.proofs.Numbers.{bytes_long}
use Rattle.numbers.proofs.Put.{put_none}
use Rattle.numbers.proofs.Written.{written_long, written_next, written_one}
use Rattle.exceptions_lists.specs.Lists.{entries_to, ends_to}
use Rattle.exceptions_lists.proofs.Apart.{put_long, put_apart}
use Rattle.exceptions_lists.proofs.Ends.{entries_in, entries_long, entries_none, entries_more, entries_behind, entries_up, entries_all, ends_none, ends_more, ends_long, numbers_are_lem}

-- three numbers, one by one
pub three_put : (s t u v : List ℕ) (a b c : ℕ) → 12 ≤ length s → t ≡ put s 0 (le_bytes 4 a) → u ≡ put t 4 (le_bytes 4 b) → v ≡ put u 8 (le_bytes 4 c)
    → v ≡ put s 0 (written 4 (a ∷ b ∷ c ∷ []))
three_put s t u v a b c h et eu ev =
    let one : t ≡ put s 0 (written 4 (a ∷ [])) = et ∙ ap (put s 0) (written_one 4 a) in
    let two : u ≡ put s 0 (written 4 (a ∷ b ∷ [])) =
    eu ∙ ap₂ (λ (z x : List ℕ). put z 4 x) one (written_one 4 b) ∙ written_next 4 0 s (a ∷ []) (b ∷ []) 4 (omega arith) (omega arith) in
    ev ∙ ap₂ (λ (z x : List ℕ). put z 8 x) two (written_one 4 c) ∙ written_next 4 0 s (a ∷ b ∷ []) (c ∷ []) 8 (omega arith) (omega arith)

-- x of k lists are written, and the next one begins at number `at`
pub record Writing (I : Index) (k x at : ℕ) (before out : List ℕ) : Type 0 where
  pub within : x ≤ k
  pub long : length out ≡ length before
  pub here : at ≡ k + 3 + entries_to I x
  pub is : out ≡ put (put before 12 (written 4 (ends_to I x))) (4 * (k + 3)) (written 4 (entries_in I x))

pub writing_none : (I : Index) (k : ℕ) (out : List ℕ) → Writing I k 0 (k + 3) out out
writing_none I k out = record {
  within = omega arith;
  long = refl;
  here = rw (entries_none I) (sym (add-zero (k + 3)));
  is = rw (ends_none I) (sym (put_none _ (4 * (k + 3)) ∙ put_none out 12));
}

module _
    {I : Index} {k : ℕ} {before : List ℕ} (room : 4 * (k + 3 + entries_to I k) ≤ length before) {x at : ℕ} {out : List ℕ}
    (K : Writing I k x at before out)
  where
    abbrev ends : List ℕ
    ends = put before 12 (written 4 (ends_to I x))

    written_ends : length (written 4 (ends_to I x)) ≡ 4 * x
    written_ends = written_long 4 (ends_to I x) ∙ ap (λ (z : ℕ). 4 * z) (ends_long I x)

    ends_kept : length ends ≡ length before
    ends_kept = put_long before 12 (written 4 (ends_to I x)) (omega (arith, written_ends, K.within))

    module _ (h : x < k) where
      -- there is room for the next list
      pub writing_fits : 4 * (at + length (entries_of I x)) ≤ length out
      writing_fits = omega (arith, K.here, K.long, entries_more I x, entries_up I (x + 1) k (omega arith))

      -- it is written, and then where it ends
      module _
          {next v : ℕ} {mid after : List ℕ} (row : mid ≡ put out (4 * at) (written 4 (entries_of I x))) (kept : length mid ≡ length out)
          (ended : next ≡ at + length (entries_of I x)) (is : v ≡ next - (k + 3)) (end : after ≡ put mid (4 * (x + 3)) (le_bytes 4 v)) (same : length after ≡ length mid)
        where
          end_is : v ≡ entries_to I (x + 1)
          end_is = omega (arith, K.here, entries_more I x)

          rows_put : mid ≡ put ends (4 * (k + 3)) (written 4 (entries_in I (x + 1)))
          rows_put =
              row
              ∙ ap (λ (z : List ℕ). put z (4 * at) (written 4 (entries_of I x))) K.is
              ∙ written_next 4 (4 * (k + 3)) ends (entries_in I x) (entries_of I x) (4 * at) (omega (arith, K.here, entries_long I x))
              (omega (arith, ends_kept, entries_long I x, entries_up I x k (omega arith)))
              ∙ ap (λ (z : List ℕ). put ends (4 * (k + 3)) (written 4 z)) (sym (entries_behind I x))

          ends_put : put ends (4 * (x + 3)) (le_bytes 4 v) ≡ put before 12 (written 4 (ends_to I (x + 1)))
          ends_put =
              ap (put ends (4 * (x + 3))) (ap (le_bytes 4) end_is ∙ written_one 4 (entries_to I (x + 1)))
              ∙ written_next 4 12 before (ends_to I x) (entries_to I (x + 1) ∷ []) (4 * (x + 3)) (omega (arith, ends_long I x)) (omega (arith, ends_long I x))
              ∙ ap (λ (z : List ℕ). put before 12 (written 4 z)) (sym (ends_more I x))

          pub writing_more : Writing I k (x + 1) next before after
          writing_more = record {
            within = omega arith;
            long = same ∙ kept ∙ K.long;
            here = omega (arith, K.here, entries_more I x);
            is =
                end
                ∙ ap (λ (z : List ℕ). put z (4 * (x + 3)) (le_bytes 4 v)) rows_put
                ∙ put_apart ends (4 * (x + 3)) (le_bytes 4 v) (4 * (k + 3)) (written 4 (entries_in I (x + 1))) (omega (arith, bytes_long 4 v)) (omega (arith, ends_kept))
                ∙ ap (λ (z : List ℕ). put z (4 * (k + 3)) (written 4 (entries_in I (x + 1)))) ends_put;
          }

    -- all are
    module _ (e : x ≡ k) (all : k ≡ length I.groups) where
      pub writing_all : out ≡ put before 12 (written 4 (ends_to I k ++ joined (exception_rows I)))
      writing_all =
          K.is
          ∙ ap (λ (z : ℕ). put (put before 12 (written 4 (ends_to I z))) (4 * (k + 3)) (written 4 (entries_in I z))) e
          ∙ written_next 4 12 before (ends_to I k) (entries_in I k) (4 * (k + 3)) (omega (arith, ends_long I k)) (omega (arith, ends_long I k))
          ∙ ap (λ (z : List ℕ). put before 12 (written 4 (ends_to I k ++ z))) (entries_all I k all)

-- the head, and behind it all that follows
module _ (I : Index) {k : ℕ} (all : k ≡ length I.groups) (before head out : List ℕ) {entries : ℕ} (count : entries ≡ length (joined (exception_rows I)))
    (room : 12 ≤ length before) (first : head ≡ put before 0 (written 4 (k ∷ entries ∷ 0 ∷ [])))
    (rest : out ≡ put head 12 (written 4 (ends_to I k ++ joined (exception_rows I))))
  where
    all_given : (k ∷ entries ∷ 0 ∷ []) ++ (ends_to I k ++ joined (exception_rows I)) ≡ exception_numbers I
    all_given = rw (all, count) (sym (numbers_are_lem I))

    pub lists_written : out ≡ put before 0 (encode_exceptions I)
    unfolding encode_exceptions
    lists_written =
        rest
        ∙ ap (λ (z : List ℕ). put z 12 (written 4 (ends_to I k ++ joined (exception_rows I)))) first
        ∙ written_next 4 0 before (k ∷ entries ∷ 0 ∷ []) (ends_to I k ++ joined (exception_rows I)) 12 (omega arith) (omega arith)
        ∙ ap (λ (z : List ℕ). put before 0 (written 4 z)) all_given
