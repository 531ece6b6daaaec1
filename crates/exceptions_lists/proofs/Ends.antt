-- Where lists end. The first x + 1 lists have the entries of the first x and those of list x; so all numbers that are stored are k, the number of entries, 0, where each
-- list ends, and the entries.
use mathlib.Core.Path.{◌≡◌, refl, sym, ap, subst⁻¹, ◌∙◌}
use mathlib.Core.List.{List, [], ◌∷◌, ◌++◌, map-append}
use Prim.Native.Nat.{ℕ, zero, suc, ◌+◌, ◌*◌, ◌≤◌, ◌<◌}
use native.Mathlib.Decide.{ℕ_discrete}
use native.Mathlib.Numerals.{add-one}
use native.Mathlib.Nat.{not-suc-le-zero}
use native.Mathlib.Omega.{arith}
use lib.ListN.{length, get_or, length-append, get_or-append}
use lib.Seq.{get_or-append-add, ext_get_or}
use Rattle.lineage.specs.Lists.{upto, joined, cleared}
use Rattle.lineage.specs.Index.{Index}
use Rattle.lineage.specs.Stored.{starts_from}
use Rattle.laws.proofs.Lists.{table_long, table_at}
use Rattle.laws.proofs.Joined.{joined_more}
use Rattle.laws.proofs.Starts.{starts_long}
use Rattle.laws_exceptions.specs.Exceptions.{entries_of, exception_rows, exception_numbers}
use Rattle.laws_exceptions.proofs.Rows.{rows_to, start_is, rows_few}
use Rattle.numbers.specs.Bounds.{vertex_bound}
use Rattle.exceptions_lists.specs.Lists.{entries_to, ends_to}

module _ (I : Index) where
  abbrev k : ℕ
  k = length I.groups

  abbrev pub entries_in : ℕ → List ℕ
  entries_in x = joined (rows_to I x)

  pub entries_long : (x : ℕ) → length (entries_in x) ≡ entries_to I x
  unfolding entries_to
  entries_long x = refl

  pub entries_none : entries_to I 0 ≡ 0
  unfolding entries_to
  entries_none = refl

  -- one list more
  entries_next : (x : ℕ) → entries_to I (suc x) ≡ entries_to I x + length (entries_of I x)
  unfolding entries_to
  entries_next x = ap length (joined_more (entries_of I) x) ∙ length-append (entries_in x) (entries_of I x)

  pub entries_more : (x : ℕ) → entries_to I (x + 1) ≡ entries_to I x + length (entries_of I x)
  entries_more x = rw (add-one x) (entries_next x)

  pub entries_behind : (x : ℕ) → entries_in (x + 1) ≡ entries_in x ++ entries_of I x
  entries_behind x = rw (add-one x) (joined_more (entries_of I) x)

  pub entries_up : (x n : ℕ) → x ≤ n → entries_to I x ≤ entries_to I n
  entries_up x zero h = let e : x ≡ 0 = omega arith in rw e (omega arith)
  entries_up x (suc n) h =
      elim (ℕ_discrete x (suc n)) [
        | yes e ↦ rw e (omega arith)
        | no e ↦ omega (arith, entries_up x n (omega arith), entries_next n)
      ]

  -- all lists
  pub entries_all : (x : ℕ) → x ≡ k → entries_in x ≡ joined (exception_rows I)
  unfolding exception_rows
  entries_all x e = rw e

  pub entries_count : (x : ℕ) → x ≡ k → entries_to I x ≡ length (joined (exception_rows I))
  entries_count x e = sym (entries_long x) ∙ ap length (entries_all x e)

  pub entries_few : k ≤ vertex_bound → (x : ℕ) → entries_to I x ≤ vertex_bound * x
  entries_few h x = omega (arith, entries_long x, rows_few I vertex_bound x h)

  -- an entry of list x among all
  pub entry_among : (x n j : ℕ) → x < n → j < length (entries_of I x) → get_or (entries_in n) (entries_to I x + j) 0 ≡ get_or (entries_of I x) j 0
  entry_among x zero j h l = absurd (not-suc-le-zero h)
  entry_among x (suc n) j h l =
      ap (λ (z : List ℕ). get_or z (entries_to I x + j) 0) (joined_more (entries_of I) n)
      ∙ elim (ℕ_discrete x n) [
        | yes e ↦
            rw e
            (ap (λ (z : ℕ). get_or (entries_in n ++ entries_of I n) (z + j) 0) (sym (entries_long n)) ∙ get_or-append-add (entries_in n) (entries_of I n) j 0)
        | no e ↦
            get_or-append (entries_in n) (entries_of I n) 0 (entries_to I x + j) (omega (arith, entries_long n, entries_next x, entries_up (suc x) n (omega arith)))
            ∙ entry_among x n j (omega arith) l
      ]

  -- where lists end
  pub ends_none : ends_to I 0 ≡ []
  unfolding ends_to
  ends_none = refl

  ends_next : (x : ℕ) → ends_to I (suc x) ≡ ends_to I x ++ (entries_to I (suc x) ∷ [])
  unfolding ends_to
  ends_next x = map-append (λ i. entries_to I (suc i)) (upto x) (x ∷ [])

  pub ends_more : (x : ℕ) → ends_to I (x + 1) ≡ ends_to I x ++ (entries_to I (x + 1) ∷ [])
  ends_more x = rw (add-one x) (ends_next x)

  pub ends_long : (x : ℕ) → length (ends_to I x) ≡ x
  unfolding ends_to
  ends_long x = table_long (λ i. entries_to I (suc i)) x

  -- with 0 before them they are the starts
  starts_are : (n : ℕ) → starts_from 0 (rows_to I n) ≡ 0 ∷ ends_to I n
  unfolding ends_to
  starts_are n = ext_get_or 0 (starts_from 0 (rows_to I n)) (0 ∷ ends_to I n) (omega (arith, starts_long 0 (rows_to I n), table_long (entries_of I) n, ends_long n)) at
    where
      at : (i : ℕ) → i < length (starts_from 0 (rows_to I n)) → get_or (starts_from 0 (rows_to I n)) i 0 ≡ get_or (0 ∷ ends_to I n) i 0
      at zero h = start_is I n 0 (omega arith)
      at (suc i) h =
          let low : i < n = omega (arith, starts_long 0 (rows_to I n), table_long (entries_of I) n) in
          start_is I n (suc i) low ∙ entries_long (suc i) ∙ sym (table_at (λ j. entries_to I (suc j)) n i 0 low)

  pub numbers_are_lem : exception_numbers I ≡ (k ∷ length (joined (exception_rows I)) ∷ 0 ∷ []) ++ (ends_to I k ++ joined (exception_rows I))
  unfolding exception_numbers exception_rows
  numbers_are_lem = ap (λ (z : List ℕ). k ∷ length (joined (rows_to I k)) ∷ (z ++ joined (rows_to I k))) (starts_are k)

-- marks that are as they were lent are long enough, and cleared, as they were
pub marks_still : {n : ℕ} (before marks : List ℕ) → marks ≡ before → (n ≤ length before) × (before ≡ cleared n before) → (n ≤ length marks) × (marks ≡ cleared n marks)
marks_still {n} before marks e = subst⁻¹ (λ (z : List ℕ). (n ≤ length before) × (before ≡ cleared n before) → (n ≤ length z) × (z ≡ cleared n z)) e (λ h. h)
