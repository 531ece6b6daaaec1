-- Who is a child of two others, by the rows of parents: a row holds each parent once, so it has as many entries as its group has parents.
use mathlib.Core.Bool.{Bool, true, false}
use mathlib.Core.Path.{◌≡◌, sym, ap, ◌∙◌}
use mathlib.Core.List.{List}
use Prim.Native.Nat.{ℕ, suc, ◌+◌, ◌*◌, ◌≤◌, ◌<◌}
use native.Mathlib.Decide.{dec_lt}
use native.Mathlib.Omega.{arith}
use native.Mathlib.Numerals.{add-one}
use lib.ListN.{length, get_or}
use borrow.Author.Tests.{lt-ltb, le-ltb}
use Rattle.lineage.specs.Lists.{upto, first_of, part}
use Rattle.lineage.specs.Stored.{row_at}
use Rattle.lineage.specs.Sound.{child_of, parents_of, shared}
use Rattle.laws.proofs.Lists.{those_pass, those_keep, in_upto, upto_low}
use Rattle.laws.proofs.Rising.{rises_upto, rises_those, rises_distinct, pigeonhole}
use Rattle.laws.proofs.Laid.{row_below, below_in}
use Rattle.build_rows.specs.Rows.{RowsOnce}
use Rattle.numbers.proofs.Found.{first_same}
use Rattle.build_orders.proofs.Parents.{row_long}
use Rattle.build_labelled.specs.Window.{children_by}
use Rattle.build_indexed.specs.Memory.{children_from, GroupsStored}
use Rattle.build_indexed.specs.Shared.{row_shared}

-- the test of a row, by the two words that code reads
module _ (starts : List ℕ) (p : ℕ) where
  pub row_many : get_or starts p 0 + 1 < get_or starts (p + 1) 0 → row_shared starts p ≡ true
  row_many t = lt-ltb (get_or starts p 0 + 1) (get_or starts (suc p) 0) (omega (arith, ap (λ i. get_or starts i 0) (add-one p)))

  pub row_few : get_or starts (p + 1) 0 ≤ get_or starts p 0 + 1 → row_shared starts p ≡ false
  row_few t = le-ltb (get_or starts p 0 + 1) (get_or starts (suc p) 0) (omega (arith, ap (λ i. get_or starts i 0) (add-one p)))

-- rows of parents of k groups
module _
    {starts values : List ℕ} (children : List (List ℕ)) {k : ℕ} (long : length children ≡ k)
    (R : RowsOnce starts values k (λ q p. child_of children p q))
  where
    parents_many : (q : ℕ) → q < k → length (row_at starts values q) ≡ length (parents_of children q)
    parents_many q h =
        let row : List ℕ = row_at starts values q in
        let parents : List ℕ = parents_of children q in
        let test : ℕ → Bool = λ p. child_of children p q in
        let low : (p : ℕ) → p < k → p < length children = λ p l. omega arith in
        omega (
          arith,
          pigeonhole row parents (R.once q h) (λ p i.
              let l : p < k = below_in k row (row_below R.laid k R.low q h) p i in
              those_keep test p (upto (length children)) (sym (R.holds q p h l) ∙ i) (in_upto (length children) p (low p l))),
          pigeonhole parents row (rises_distinct parents (rises_those test (upto (length children)) (rises_upto (length children)))) (λ p i.
              let (t, j) = those_pass test p (upto (length children)) i in
              R.holds q p h (omega (arith, upto_low (length children) p j)) ∙ t),
        )

    shared_is : (q : ℕ) → q < k → row_shared starts q ≡ shared children q
    shared_is q h =
        let many : get_or starts (suc q) 0 ≡ get_or starts q 0 + length (parents_of children q) = omega (arith, row_long children long R q h, parents_many q h) in
        elim (dec_lt 1 (length (parents_of children q))) [
          | yes t ↦ lt-ltb (get_or starts q 0 + 1) (get_or starts (suc q) 0) (omega arith) ∙ sym (lt-ltb 1 (length (parents_of children q)) t)
          | no f ↦ le-ltb (get_or starts q 0 + 1) (get_or starts (suc q) 0) (omega arith) ∙ sym (le-ltb 1 (length (parents_of children q)) (omega arith))
        ]

-- the first of the groups that lie in work
pub first_shared : {work : List ℕ} {n k c e : ℕ} → GroupsStored work n k c e
    → first_of (row_shared (part work (3 * n) (k + 1))) (upto k) k ≡ first_of (shared (children_by work (children_from n k e) k c)) (upto k) k
first_shared {work} {n} {k} {c} {e} S =
    let children : List (List ℕ) = children_by work (children_from n k e) k c in
    let long : length children ≡ k = S.fit.sound.children_long ∙ S.fit.vertices.all in
    first_same (row_shared (part work (3 * n) (k + 1))) (shared children) (upto k) k (λ q i. shared_is children long S.fit.parents_are q (upto_low k q i))
