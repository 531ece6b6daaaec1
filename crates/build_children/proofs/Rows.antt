-- Laid-out rows, told by what they hold. Where they hold each number once, a turned row is those of the sequence in whose rows the number stands.
use mathlib.Core.Bool.{Bool, true, false}
use mathlib.Core.Path.{◌≡◌, refl, sym, ◌∙◌}
use mathlib.Core.List.{List}
use Prim.Native.Nat.{ℕ, ◌<◌}
use Rattle.lineage.specs.Lists.{upto, among, those}
use Rattle.lineage.specs.Labels.{Order}
use Rattle.lineage.specs.Stored.{row_at}
use Rattle.laws.specs.Laid.{Below, Rows}
use Rattle.laws.proofs.Tests.{clash, is_false}
use Rattle.laws.proofs.Lists.{those_pass, those_keep, those_same, in_upto, upto_low, length_upto}
use Rattle.laws.proofs.Rising.{rises_upto, rises_those, rises_unique}
use Rattle.laws.proofs.Laid.{values_below}
use Rattle.build_rows.specs.Rows.{turned_row, RowsOnce}
use Rattle.build_rows.proofs.Orders.{order_low}
use Rattle.build_rows.proofs.Contents.{turned_once}

-- 0, .. , k - 1 is an order
pub upto_order : (k : ℕ) → Order k (upto k)
upto_order k = record { long = length_upto k; all = in_upto k }

-- rows that agree
pub rows_same : {starts values : List ℕ} {k : ℕ} {row row' : ℕ → List ℕ} → Rows starts values k row → ((p : ℕ) → p < k → row p ≡ row' p) → Rows starts values k row'
rows_same r same = record { laid = r.laid; row_is = λ p h. r.row_is p h ∙ same p h }

-- rows that hold their numbers once, turned over any order: those of the order whose row holds the number
pub once_turned :
    {starts values starts' values' sequence : List ℕ} {k : ℕ} {test : ℕ → ℕ → Bool} → RowsOnce starts values k test → Order k sequence
    → Rows starts' values' k (turned_row (row_at starts values) sequence) → Rows starts' values' k (λ p. those (λ q. test q p) sequence)
once_turned {starts} {values} {sequence = sequence} {k} {test} r o t =
    rows_same t (λ p h.
    turned_once (row_at starts values) p sequence (λ q i. r.once q (order_low k sequence o q i))
    ∙ those_same (λ q. among p (row_at starts values q)) (λ q. test q p) sequence (λ q i. r.holds q p (order_low k sequence o q i) h))

-- of the numbers below k: p passes where it stands among those that pass
pub among_those : (test : ℕ → Bool) (k p : ℕ) → p < k → among p (those test (upto k)) ≡ test p
among_those test k p h = at (test p) refl
  where
    at : (t : Bool) → test p ≡ t → among p (those test (upto k)) ≡ test p
    at true e = those_keep test p (upto k) e (in_upto k p h) ∙ sym e
    at false e = is_false (among p (those test (upto k))) (λ i. clash (those_pass test p (upto k) i).0 e) ∙ sym e

-- two tests that the same numbers below k pass
pub those_upto :
    (f g : ℕ → Bool) (k : ℕ) → ((q : ℕ) → q < k → f q ≡ true → g q ≡ true) → ((q : ℕ) → q < k → g q ≡ true → f q ≡ true) → those f (upto k) ≡ those g (upto k)
those_upto f g k to from =
    rises_unique (those f (upto k)) (those g (upto k)) (rises_those f (upto k) (rises_upto k)) (rises_those g (upto k) (rises_upto k))
    (λ q i. let (c, j) = those_pass f q (upto k) i in those_keep g q (upto k) (to q (upto_low k q j) c) j)
    (λ q i. let (c, j) = those_pass g q (upto k) i in those_keep f q (upto k) (from q (upto_low k q j) c) j)

-- rows of those of an order are rows of numbers below k
pub those_below : (test : ℕ → ℕ → Bool) {starts values : List ℕ} (sequence : List ℕ) {n k : ℕ} → Order k sequence → Rows starts values n (λ x. those (test x) sequence) → Below k values
those_below test sequence {k = k} o r = values_below r k (λ x v h i. order_low k sequence o v (those_pass (test x) v sequence i).1)
