-- A labelling whose ranks and inner intervals have passed: places are below k, ranks are from 1 to k, m is from 1 to e, and a left walk goes left.
use mathlib.Core.Bool.{true}
use mathlib.Core.Path.{◌≡◌}
use mathlib.Core.List.{List}
use Prim.Native.Nat.{ℕ, ◌≤◌, ◌<◌}
use native.Mathlib.Omega.{arith}
use lib.Dec.{leb}
use lib.ListN.{length, get_or}
use borrow.Author.Tests.{leb-true}
use Rattle.lineage.specs.Labels.{Labelling, nobodys_child}
use Rattle.lineage.specs.Sound.{walk_ends, rank_passes, inner_passes}
use Rattle.laws.proofs.Tests.{and_left, and_right}
use Rattle.laws.proofs.Inverse.{rank_most}
use Rattle.laws.proofs.Lists.{all_below_lem}
use Rattle.sound_ranks.proofs.Ranks.{rank_low, rank_own}
use Rattle.sound_blocks.specs.Fit.{Ranked}
use Rattle.sound_blocks.specs.Marks.{unmarked, Tells}
use Rattle.sound_blocks.proofs.Walk.{Left, walk_agrees}

module _ (l : Labelling) where
  abbrev e : ℕ → ℕ
  e p = get_or l.e p 0

  abbrev m : ℕ → ℕ
  m p = get_or l.m p 0

  inner_some : (p : ℕ) → inner_passes l p ≡ true → 1 ≤ m p
  inner_some p t = leb-true 1 (m p) (and_left (leb 1 (m p)) (leb (m p) (e p)) t)

  inner_below : (p : ℕ) → inner_passes l p ≡ true → m p ≤ e p
  inner_below p t = leb-true (m p) (e p) (and_right (leb 1 (m p)) (leb (m p) (e p)) t)

module _ {k : ℕ} {l : Labelling} (N : Ranked k l) where
  ranked : (r : ℕ) → r < k → rank_passes k l r ≡ true
  ranked r h = all_below_lem k (rank_passes k l) r N.ranks h

  inner : (p : ℕ) → p < k → inner_passes l p ≡ true
  inner p h = all_below_lem k (inner_passes l) p N.inners h

  -- the place at a rank that was read
  pub place_low : {r p : ℕ} → r < k → p ≡ get_or l.by_rank r 0 → p < k
  place_low {r} h i = omega (arith, rank_low k l r (ranked r h))

  pub m_some : {p x : ℕ} → p < k → x ≡ get_or l.m p 0 → 1 ≤ x
  m_some {p} h i = omega (arith, inner_some l p (inner p h))

  pub e_some : {p x : ℕ} → p < k → x ≡ get_or l.e p 0 → 1 ≤ x
  e_some {p} h i = omega (arith, inner_some l p (inner p h), inner_below l p (inner p h))

  pub e_most : {p x : ℕ} → length l.by_rank ≡ k → p < k → x ≡ get_or l.e p 0 → x ≤ k
  e_most {p} long h i =
      omega (arith, rank_most k l.by_rank (λ q. get_or l.e q 0) long (λ r j. rank_low k l r (ranked r j)) (λ r j. rank_own k l r (ranked r j)) p h)

  pub goes_left : Left l k
  goes_left = record {
    goes = λ r h.
        let p : ℕ = get_or l.by_rank r 0 in
        omega (arith, rank_own k l r (ranked r h), inner_below l p (inner p (rank_low k l r (ranked r h))));
  }

  -- the walk over all ranks, by marks that tell who is nobody's child
  pub roots_are : {children : List (List ℕ)} {marks : List ℕ} → Tells children marks k → walk_ends l (unmarked marks) k k 0 ≡ walk_ends l (nobodys_child children) k k 0
  roots_are {children} {marks} T =
      walk_agrees goes_left (λ r h. rank_low k l r (ranked r h)) (unmarked marks) (nobodys_child children) T.right 0 k k (omega arith)
