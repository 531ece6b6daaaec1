-- The test of one labelling as the three that the code makes: the lengths that it asks for hold by the count, ranks and inner intervals are tested together,
-- and so are e, s and the blocks of a group. The first, passed, is what the walks over blocks ask for.
use mathlib.Core.Bool.{Bool, true, false, not, ◌&&◌}
use mathlib.Core.Path.{◌≡◌, refl, ap, ap₂, ◌∙◌}
use mathlib.Core.List.{List}
use Prim.Native.Nat.{ℕ}
use lib.ListN.{length}
use borrow.Author.Tests.{eq-eqb}
use Rattle.lineage.specs.Lists.{all_below}
use Rattle.lineage.specs.Labels.{nobodys_child, Labelling}
use Rattle.lineage.specs.Sound.{walk_ends, rank_passes, fall_passes, outer_passes, inner_passes, block_passes, labels_pass}
use Rattle.laws.proofs.Tests.{told_true, and_left, and_right}
use Rattle.stored.specs.Sections.{labelling_in}
use Rattle.stored.proofs.Sections.{s_long, m_long, e_long, places_long}
use Rattle.sound_groups.proofs.Both.{both_below}
use Rattle.sound_ranks.specs.Tests.{rank_and_inner, fall_and_outer}
use Rattle.sound_ranks.proofs.Ranks.{ranks_are}
use Rattle.sound_blocks.specs.Fit.{Ranked}
use Rattle.sound_blocks.specs.Tests.{intervals_pass}

-- six tests, in the order of the code and in that of the definition
reorder : (r i f o b c : Bool) → ((r && i) && (((f && o) && b) && c)) ≡ (r && (f && (o && (i && (b && c)))))
reorder false i f o b c = refl
reorder true true true true b c = refl
reorder true true true false b c = refl
reorder true true false o b c = refl
reorder true false true true b c = refl
reorder true false true false b c = refl
reorder true false false o b c = refl

module _ (w z k : ℕ) (tuples places : List ℕ) (rows : List (List ℕ)) (many : length rows ≡ k) where
  abbrev l : Labelling
  l = labelling_in w z tuples places k

  abbrev roots : Bool
  roots = walk_ends l (nobodys_child rows) k k 0

  whole_is :
      (all_below k (rank_passes k l) && (all_below k (fall_passes rows l) && (all_below k (outer_passes rows l)
      && (all_below k (inner_passes l) && (all_below k (block_passes rows l) && roots)))))
      ≡ labels_pass rows l
  unfolding labels_pass
  whole_is =
      rw (many, s_long w z tuples places k, m_long w z tuples places k, e_long w z tuples places k, places_long w z tuples places k, eq-eqb k k refl)

  intervals_are_lem : all_below k (intervals_pass rows l) ≡ ((all_below k (fall_passes rows l) && all_below k (outer_passes rows l)) && all_below k (block_passes rows l))
  intervals_are_lem =
      both_below k (fall_and_outer rows l) (block_passes rows l)
      ∙ ap (λ (b : Bool). b && all_below k (block_passes rows l)) (both_below k (fall_passes rows l) (outer_passes rows l))

  pub labels_is :
      (all_below k (rank_and_inner k (labelling_in w z tuples places k))
      && (all_below k (intervals_pass rows (labelling_in w z tuples places k)) && walk_ends (labelling_in w z tuples places k) (nobodys_child rows) k k 0))
      ≡ labels_pass rows (labelling_in w z tuples places k)
  labels_is =
      ap₂ (λ (a b : Bool). a && (b && roots)) (ranks_are k l (places_long w z tuples places k)) intervals_are_lem
      ∙ reorder (all_below k (rank_passes k l)) (all_below k (inner_passes l)) (all_below k (fall_passes rows l)) (all_below k (outer_passes rows l)) (all_below k (block_passes rows l)) roots
      ∙ whole_is

-- a function answers a to the test of ranks and inner intervals, and its caller has gone past `!a`
pub ranked_after : (k : ℕ) (l : Labelling) {a : Bool} → length l.by_rank ≡ k → a ≡ all_below k (rank_and_inner k l) → not a ≡ false → Ranked k l
ranked_after k l long e t =
    let R = all_below k (rank_passes k l) in
    let I = all_below k (inner_passes l) in
    let passed = told_true (e ∙ ranks_are k l long) t in
    record { ranks = and_left R I passed; inners = and_right R I passed }
