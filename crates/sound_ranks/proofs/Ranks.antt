-- The test of one rank and of the inner interval at it, from what was read. Where every rank has passed, every place stands at a rank: so the inner intervals
-- of all places have passed where those at all ranks have.
use mathlib.Core.Bool.{Bool, true, false, ◌&&◌, cond}
use mathlib.Core.Path.{◌≡◌, refl, sym, ◌∙◌}
use Prim.Native.Nat.{ℕ, suc, ◌≤◌, ◌<◌}
use native.Mathlib.Omega.{arith}
use lib.Dec.{eqb, ltb}
use lib.ListN.{length, get_or}
use borrow.Author.Tests.{ltb-true, eqb-true}
use Rattle.lineage.specs.Lists.{all_below}
use Rattle.lineage.specs.Labels.{Labelling}
use Rattle.lineage.specs.Sound.{rank_passes, inner_passes}
use Rattle.laws.proofs.Inverse.{rank_most}
use Rattle.laws.proofs.Lists.{all_from, all_below_lem}
use Rattle.laws.proofs.Tests.{and_left, and_right, is_false, clash}
use Rattle.sound_groups.proofs.Both.{both_below}
use Rattle.sound_ranks.specs.Tests.{rank_and_inner}

module _ (k : ℕ) (l : Labelling) where
  abbrev at : ℕ → ℕ
  at r = get_or l.by_rank r 0

  abbrev e : ℕ → ℕ
  e p = get_or l.e p 0

  -- a rank that has passed
  pub rank_low : (r : ℕ) → rank_passes k l r ≡ true → get_or l.by_rank r 0 < k
  rank_low r t = ltb-true (at r) k (and_left (ltb (at r) k) (eqb (e (at r)) (suc r)) t)

  pub rank_own : (r : ℕ) → rank_passes k l r ≡ true → get_or l.e (get_or l.by_rank r 0) 0 ≡ suc r
  rank_own r t = eqb-true (e (at r)) (suc r) (and_right (ltb (at r) k) (eqb (e (at r)) (suc r)) t)

  -- all ranks, k of them
  module _ (long : length l.by_rank ≡ k) (all : all_below k (rank_passes k l) ≡ true) where
    low : (r : ℕ) → r < k → at r < k
    low r h = rank_low r (all_below_lem k (rank_passes k l) r all h)

    -- a test that passes at every rank passes at every place: a number that is the rank at every rank is at most k, and the one that is e where the test
    -- passes and k + 1 elsewhere is such a number
    everywhere : (test : ℕ → Bool) → ((r : ℕ) → r < k → test (at r) ≡ true) → (p : ℕ) → p < k → test p ≡ true
    everywhere test passes p h = by (test p) refl
      where
        number : ℕ → ℕ
        number q = cond (test q) (e q) (suc k)

        most : number p ≤ k
        most = rank_most k l.by_rank number long low (λ r i. rw (passes r i) (rank_own r (all_below_lem k (rank_passes k l) r all i))) p h

        by : (b : Bool) → test p ≡ b → test p ≡ true
        by true t = t
        by false f = absurd (omega (arith, rw f at most))

    inners_are : (b : Bool) → all_below k (inner_passes l) ≡ b → all_below k (λ r. inner_passes l (at r)) ≡ all_below k (inner_passes l)
    inners_are true t = all_from k (λ r. inner_passes l (at r)) (λ r h. all_below_lem k (inner_passes l) (at r) t (low r h)) ∙ sym t
    inners_are false f =
        is_false (all_below k (λ r. inner_passes l (at r)))
        (λ t. clash (all_from k (inner_passes l) (everywhere (inner_passes l) (λ r h. all_below_lem k (λ i. inner_passes l (at i)) r t h))) f)
        ∙ sym f

  -- the two tests, made together, as lineage has them
  pub ranks_are : length l.by_rank ≡ k → all_below k (rank_and_inner k l) ≡ (all_below k (rank_passes k l) && all_below k (inner_passes l))
  ranks_are long = both_below k (rank_passes k l) (λ r. inner_passes l (at r)) ∙ by (all_below k (rank_passes k l)) refl
    where
      by : (b : Bool) → all_below k (rank_passes k l) ≡ b → (b && all_below k (λ r. inner_passes l (at r))) ≡ (b && all_below k (inner_passes l))
      by true t = inners_are long t (all_below k (inner_passes l)) refl
      by false f = refl
