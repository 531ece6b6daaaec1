-- Where row q holds the places that have q among their children, an empty row says that q is nobody's child.
use mathlib.Core.Bool.{Bool, true, false}
use mathlib.Core.Path.{◌≡◌, refl, sym, subst, ◌∙◌}
use mathlib.Core.List.{List, [], ◌∷◌}
use Prim.Native.Nat.{ℕ, suc, ◌+◌, ◌-◌, ◌<◌}
use native.Mathlib.Omega.{arith}
use lib.ListN.{length, get_or}
use borrow.Author.Tests.{eq-eqb, ne_eqb}
use Rattle.lineage.specs.Lists.{among, those, joined}
use Rattle.lineage.specs.Labels.{nobodys_child}
use Rattle.lineage.specs.Stored.{row_at}
use Rattle.lineage.specs.Sound.{child_of}
use Rattle.laws.proofs.Tests.{clash}
use Rattle.laws.proofs.Joined.{in_joined, joined_in}
use Rattle.laws.proofs.Lists.{here, those_same}
use Rattle.laws.proofs.Positions.{position_low}
use Rattle.laws.proofs.Parts.{part_length}
use Rattle.laws.proofs.Laid.{start_low, row_below, below_in}
use Rattle.build_rows.specs.Rows.{RowsOnce}
use Rattle.build_orders.specs.Roots.{row_empty}

module _
    {starts values : List ℕ} (children : List (List ℕ)) {k : ℕ} (long : length children ≡ k)
    (R : RowsOnce starts values k (λ q p. child_of children p q))
  where
    -- a row ends where the next one starts
    pub row_long : (q : ℕ) → q < k → get_or starts (suc q) 0 ≡ get_or starts q 0 + length (row_at starts values q)
    unfolding row_at
    row_long q h =
        omega (
          arith,
          R.laid.rising q h,
          part_length values (get_or starts q 0) (get_or starts (suc q) 0 - get_or starts q 0) (omega (arith, R.laid.rising q h, start_low R.laid (suc q) h)),
        )

    -- a row that is not empty has a first number, which is below k
    row_none : (q : ℕ) → q < k → among q (joined children) ≡ false → length (row_at starts values q) ≡ 0
    row_none q h e = at (row_at starts values q) refl
      where
        at : (xs : List ℕ) → row_at starts values q ≡ xs → length xs ≡ 0
        at [] z = refl
        at (p ∷ xs) z =
            let i : among p (row_at starts values q) ≡ true = subst (λ (ys : List ℕ). among p ys ≡ true) (sym z) (here p xs) in
            let l : p < k = below_in k (row_at starts values q) (row_below R.laid k R.low q h) p i in
            clash (in_joined children p q (sym (R.holds q p h l) ∙ i)) e

    empty_is : (q : ℕ) → q < k → row_empty starts q ≡ nobodys_child children q
    unfolding nobodys_child
    empty_is q h = at (among q (joined children)) refl
      where
        at : (t : Bool) → among q (joined children) ≡ t → row_empty starts q ≡ nobodys_child children q
        at true e =
            let (p, l, c) = joined_in children q e in
            let some : 0 < length (row_at starts values q) = omega (arith, position_low p (row_at starts values q) (R.holds q p h (omega arith) ∙ c)) in
            rw e (ne_eqb (get_or starts (suc q) 0) (get_or starts q 0) (λ z. omega (arith, row_long q h)))
        at false e = rw e (eq-eqb (get_or starts (suc q) 0) (get_or starts q 0) (omega (arith, row_long q h, row_none q h e)))

    -- of any places those whose row of parents is empty are those that are nobody's child
    pub roots_are : (sequence : List ℕ) → ((q : ℕ) → among q sequence ≡ true → q < k) → those (row_empty starts) sequence ≡ those (nobodys_child children) sequence
    roots_are sequence low = those_same (row_empty starts) (nobodys_child children) sequence (λ q i. empty_is q (low q i))
