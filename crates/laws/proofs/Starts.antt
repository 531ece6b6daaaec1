-- Rows and their starts. Rows written one after the other are found again between their starts, and their starts pass the test; and starts that pass, first
-- 0, never falling, last c, cut the values into rows that joined are the values again.
use mathlib.Core.Bool.{true}
use mathlib.Core.Path.{◌≡◌, refl, sym, ap, ap₂, ◌∙◌}
use mathlib.Core.List.{List, [], ◌∷◌, ◌++◌, map, map-append, append_assoc}
use Prim.Native.Nat.{ℕ, zero, suc, ◌+◌, ◌-◌, ◌≤◌, ◌<◌}
use native.Mathlib.Omega.{arith}
use native.Mathlib.Nat.{not-suc-le-zero}
use lib.Dec.{eqb, leb}
use lib.ListN.{length, get_or, take, length-append}
use lib.Seq.{take-suc, take_all, length-take-le}
use borrow.Author.Tests.{eqb-true, eq-eqb, leb-true, le-leb}
use Rattle.lineage.specs.Lists.{upto, all_below, joined, part}
use Rattle.lineage.specs.Stored.{starts_from, row_at}
use Rattle.lineage.specs.Sound.{starts_pass}
use Rattle.laws.specs.Laid.{Laid, Rows}
use Rattle.laws.proofs.Tests.{and_both, both}
use Rattle.laws.proofs.Lists.{all_from, all_below_lem, length_upto, table_is}
use Rattle.laws.proofs.Parts.{part_left, part_right, part_whole}
use Rattle.laws.proofs.Joined.{joined_more}
use Rattle.laws.proofs.Laid.{start_low, take_row}

-- the starts of rows written from position `at` on: how many, the first, none above the next, the last, and those of one row more
pub starts_long : (at : ℕ) (rows : List (List ℕ)) → length (starts_from at rows) ≡ suc (length rows)
starts_long at [] = refl
starts_long at (row ∷ rows) = ap suc (starts_long (at + length row) rows)

starts_first : (at : ℕ) (rows : List (List ℕ)) → get_or (starts_from at rows) 0 0 ≡ at
starts_first at [] = refl
starts_first at (row ∷ rows) = refl

starts_up : (at : ℕ) (rows : List (List ℕ)) (p : ℕ) → p < length rows → get_or (starts_from at rows) p 0 ≤ get_or (starts_from at rows) (suc p) 0
starts_up at [] p h = absurd (not-suc-le-zero h)
starts_up at (row ∷ rows) zero h = omega (arith, starts_first (at + length row) rows)
starts_up at (row ∷ rows) (suc p) h = starts_up (at + length row) rows p (omega arith)

starts_end : (at : ℕ) (rows : List (List ℕ)) → get_or (starts_from at rows) (length rows) 0 ≡ at + length (joined rows)
starts_end at [] = omega arith
starts_end at (row ∷ rows) = omega (arith, starts_end (at + length row) rows, length-append row (joined rows))

starts_more : (at : ℕ) (rows : List (List ℕ)) (row : List ℕ) → starts_from at (rows ++ (row ∷ [])) ≡ starts_from at rows ++ ((at + length (joined rows) + length row) ∷ [])
starts_more at [] row = let e : at + length row ≡ at + 0 + length row = omega arith in ap (λ z. at ∷ z ∷ []) e
starts_more at (r ∷ rows) row =
    let e : at + length r + length (joined rows) + length row ≡ at + length (r ++ joined rows) + length row = omega (arith, length-append r (joined rows)) in
    ap (at ∷◌) (starts_more (at + length r) rows row ∙ ap (λ z. starts_from (at + length r) rows ++ (z ∷ [])) e)

-- they pass the test
pub starts_pass_lem : (rows : List (List ℕ)) → starts_pass (starts_from 0 rows) (length rows) (length (joined rows)) ≡ true
starts_pass_lem rows =
    let starts : List ℕ = starts_from 0 rows in
    and_both (eq-eqb (get_or starts 0 0) 0 (starts_first 0 rows))
    (and_both
    (all_from (length rows) (λ p. leb (get_or starts p 0) (get_or starts (suc p) 0)) (λ p h. le-leb (get_or starts p 0) (get_or starts (suc p) 0) (starts_up 0 rows p h)))
    (eq-eqb (get_or starts (length rows) 0) (length (joined rows)) (omega (arith, starts_end 0 rows))))

-- and each row is found between its start and the next
row_between : (before : List ℕ) (rows : List (List ℕ)) (at p : ℕ)
    → at ≡ length before
    → p < length rows
    → row_at (starts_from at rows) (before ++ joined rows) p ≡ get_or rows p []
unfolding row_at
row_between before [] at p e h = absurd (not-suc-le-zero h)
row_between before (row ∷ rows) at zero e h =
    let all : List ℕ = before ++ (row ++ joined rows) in
    let size : get_or (starts_from (at + length row) rows) 0 0 - at ≡ length row = omega (arith, starts_first (at + length row) rows) in
    let here : at - length before ≡ 0 = omega arith in
    ap (part all at) size
    ∙ part_right before (row ++ joined rows) at (length row) (omega arith)
    ∙ ap (λ (q : ℕ). part (row ++ joined rows) q (length row)) here
    ∙ part_left row (joined rows) 0 (length row) (omega arith)
    ∙ part_whole row (length row) refl
row_between before (row ∷ rows) at (suc p) e h =
    ap (λ (z : List ℕ). row_at (starts_from (at + length row) rows) z p) (sym (append_assoc before row (joined rows)))
    ∙ row_between (before ++ row) rows (at + length row) p (omega (arith, length-append before row)) (omega arith)

pub rows_read : (rows : List (List ℕ)) → map (row_at (starts_from 0 rows) (joined rows)) (upto (length rows)) ≡ rows
rows_read rows = table_is (row_at (starts_from 0 rows) (joined rows)) rows (length rows) [] refl (λ p h. row_between [] rows 0 p refl h)

-- starts that pass lay out any c values; so none is above the next, nor above c
module _ (starts : List ℕ) (k c : ℕ) (pass : starts_pass starts k c ≡ true) where
  pub pass_laid : (values : List ℕ) → length values ≡ c → Laid starts values k
  pass_laid values long =
      let b = both (eqb (get_or starts 0 0) 0) _ pass in
      let d = both (all_below k (λ p. leb (get_or starts p 0) (get_or starts (suc p) 0))) (eqb (get_or starts k 0) c) b.1 in
      record {
        first = eqb-true (get_or starts 0 0) 0 b.0;
        rising =
            λ p h.
            leb-true (get_or starts p 0) (get_or starts (suc p) 0)
            (all_below_lem k (λ q. leb (get_or starts q 0) (get_or starts (suc q) 0)) p d.0 h);
        last = eqb-true (get_or starts k 0) c d.1 ∙ sym long;
      }

  laid_any : Laid starts (upto c) k
  laid_any = pass_laid (upto c) (length_upto c)

  pub pass_rises : (p : ℕ) → p < k → get_or starts p 0 ≤ get_or starts (suc p) 0
  pass_rises = laid_any.rising

  pub pass_low : (p : ℕ) → p ≤ k → get_or starts p 0 ≤ c
  pass_low p h = omega (arith, start_low laid_any p h, length_upto c)

-- Laid-out rows: those before x end where x starts.
module _ {starts values : List ℕ} {k : ℕ} (laid : Laid starts values k) where
  abbrev rows_to : ℕ → List (List ℕ)
  rows_to x = map (row_at starts values) (upto x)

  joined_to : (x : ℕ) → x ≤ k → joined (rows_to x) ≡ take (get_or starts x 0) values
  joined_to zero h = rw laid.first
  joined_to (suc x) h =
      joined_more (row_at starts values) x
      ∙ ap (λ z. z ++ row_at starts values x) (joined_to x (omega arith))
      ∙ sym (take_row laid x h)

  row_ends : (x : ℕ) → x < k → 0 + length (joined (rows_to x)) + length (row_at starts values x) ≡ get_or starts (suc x) 0
  row_ends x h =
      omega (
        arith,
        ap length (joined_to x (omega arith)),
        ap length (take_row laid x h),
        length-append (take (get_or starts x 0) values) (row_at starts values x),
        length-take-le (get_or starts (suc x) 0) values (start_low laid (suc x) h),
      )

  starts_to : length starts ≡ suc k → (x : ℕ) → x ≤ k → starts_from 0 (rows_to x) ≡ take (suc x) starts
  starts_to long zero h = ap (◌∷ []) (sym laid.first) ∙ sym (take-suc starts 0 0 (omega arith))
  starts_to long (suc x) h =
      ap (starts_from 0) (map-append (row_at starts values) (upto x) (x ∷ []))
      ∙ starts_more 0 (rows_to x) (row_at starts values x)
      ∙ ap₂ (λ zs z. zs ++ (z ∷ [])) (starts_to long x (omega arith)) (row_ends x h)
      ∙ sym (take-suc starts (suc x) 0 (omega arith))

  -- the rows joined are the values, and their starts are the starts
  pub rows_joined : joined (map (row_at starts values) (upto k)) ≡ values
  rows_joined = joined_to k (omega arith) ∙ take_all (get_or starts k 0) values (omega (arith, laid.last))

  pub starts_again : length starts ≡ suc k → starts_from 0 (map (row_at starts values) (upto k)) ≡ starts
  starts_again long = starts_to long k (omega arith) ∙ take_all (suc k) starts (omega arith)

-- where the rows are those of a list of rows, that list, the values and the starts
module _ {starts values : List ℕ} {k : ℕ} (rows : List (List ℕ)) (all : length rows ≡ k) (R : Rows starts values k (λ p. get_or rows p [])) where
  pub rows_are : map (row_at starts values) (upto k) ≡ rows
  rows_are = table_is (row_at starts values) rows k [] all R.row_is

  pub values_are : values ≡ joined rows
  values_are = sym (rows_joined R.laid) ∙ ap joined rows_are

  pub starts_are : length starts ≡ suc k → starts ≡ starts_from 0 rows
  starts_are long = sym (starts_again R.laid long) ∙ ap (starts_from 0) rows_are
