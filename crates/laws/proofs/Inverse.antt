-- Where each rank's place has that rank, places and ranks are inverse: the places by rank are then distinct, and k distinct places are all places.
use mathlib.Core.Bool.{true}
use mathlib.Core.Path.{◌≡◌, sym, ap, ◌∙◌}
use mathlib.Core.List.{List}
use Prim.Native.Nat.{ℕ, suc, ◌<◌, ◌≤◌}
use native.Mathlib.Omega.{arith}
use lib.ListN.{length, get_or}
use Rattle.lineage.specs.Lists.{among, position}
use Rattle.lineage.specs.Labels.{Labelling}
use Rattle.laws.specs.Sound.{SoundLabelling}
use Rattle.laws.proofs.Positions.{position_low, at_position}
use Rattle.laws.proofs.Rising.{counting_distinct, pigeonhole_all}

module _
    (k : ℕ) (by_rank : List ℕ) (e : ℕ → ℕ) (long : length by_rank ≡ k)
    (at_low : (r : ℕ) → r < k → get_or by_rank r 0 < k) (e_at : (r : ℕ) → r < k → e (get_or by_rank r 0) ≡ suc r)
  where
    -- every place has a rank
    ranked : (p : ℕ) → p < k → among p by_rank ≡ true
    ranked p h = pigeonhole_all by_rank (counting_distinct e by_rank 1 (λ r i. omega (arith, e_at r (omega arith)))) low p (omega arith)
      where
        low : (q : ℕ) → among q by_rank ≡ true → q < length by_rank
        low q i = omega (arith, at_low (position q by_rank) (omega (arith, position_low q by_rank i)), at_position q by_rank i)

    rank_position : (p : ℕ) → p < k → suc (position p by_rank) ≡ e p
    rank_position p h =
        let r : position p by_rank < k = omega (arith, position_low p by_rank (ranked p h)) in
        sym (e_at (position p by_rank) r) ∙ ap e (at_position p by_rank (ranked p h))

    pub rank_most : (p : ℕ) → p < k → e p ≤ k
    rank_most p h = omega (arith, rank_position p h, position_low p by_rank (ranked p h))

    rank_place : (p r : ℕ) → p < k → e p ≡ suc r → get_or by_rank r 0 ≡ p
    rank_place p r h i = let j : position p by_rank ≡ r = omega (arith, rank_position p h) in rw j at (at_position p by_rank (ranked p h))

-- of a labelling that passes the tests
module _ {children : List (List ℕ)} {l : Labelling} (L : SoundLabelling children l) where
  abbrev rank_of : ℕ → ℕ
  rank_of p = get_or l.e p 0

  -- e is one more than where the place stands by rank
  pub e_position : (p : ℕ) → p < length children → suc (position p l.by_rank) ≡ rank_of p
  e_position = rank_position (length children) l.by_rank rank_of L.at_long L.at_low L.e_at

  -- a rank is from 1 to k
  pub e_some : (p : ℕ) → p < length children → 1 ≤ rank_of p
  e_some p h = omega (arith, e_position p h)

  pub e_most : (p : ℕ) → p < length children → rank_of p ≤ length children
  e_most = rank_most (length children) l.by_rank rank_of L.at_long L.at_low L.e_at

  -- the place at a place's rank is that place, so two places of one rank are one
  pub at_e : (p r : ℕ) → p < length children → rank_of p ≡ suc r → get_or l.by_rank r 0 ≡ p
  at_e = rank_place (length children) l.by_rank rank_of L.at_long L.at_low L.e_at

  pub e_one : (p q : ℕ) → p < length children → q < length children → rank_of p ≡ rank_of q → p ≡ q
  e_one p q hp hq i =
      let is : rank_of q ≡ suc (position q l.by_rank) = sym (e_position q hq) in
      sym (at_e p (position q l.by_rank) hp (i ∙ is)) ∙ at_e q (position q l.by_rank) hq is
