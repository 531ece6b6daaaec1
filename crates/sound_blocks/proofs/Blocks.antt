-- The block of one group as the walk that the code makes, and its two intervals together.
use mathlib.Core.Bool.{Bool, true, false, not}
use mathlib.Core.Path.{◌≡◌, ap, ◌∙◌}
use mathlib.Core.List.{List}
use Prim.Native.Nat.{ℕ, ◌-◌}
use lib.ListN.{length, get_or}
use Rattle.lineage.specs.Labels.{Labelling}
use Rattle.stored.specs.Sections.{labelling_in}
use Rattle.sound_ranks.specs.Tests.{tuples_alone, fall_and_outer}
use Rattle.sound_ranks.specs.Reading.{labelling_read}
use Rattle.laws.proofs.Tests.{and_fails, and_goes}
use Rattle.sound_blocks.specs.Tests.{intervals_pass}
use Rattle.sound_ranks.specs.declared.reading.OneLabelling.{OneLabelling}
use Rattle.lineage.specs.Sound.{child_of, walk_ends, block_passes}

pub block_is : {k m e : ℕ} (children : List (List ℕ)) (l : Labelling) (p : ℕ) → length children ≡ k → m ≡ get_or l.m p 0 → e ≡ get_or l.e p 0
    → walk_ends l (child_of children p) k (e - 1) (m - 1) ≡ block_passes children l p
block_is children l p long im ie = rw (long, ← im, ← ie)

-- the two tests of a group: a function tells a of its outer interval, which is tested by the numbers by place alone, and its caller asks `!a`
module _ {z : ℕ} {a : Bool} {alone : Labelling} (l : OneLabelling z) (children : List (List ℕ)) (p : ℕ) (is : alone ≡ tuples_alone l.width z l.tuples.now l.k)
    (told : a ≡ fall_and_outer children alone p)
  where
    outer : a ≡ fall_and_outer children (labelling_read z l) p
    unfolding labelling_in
    outer = told ∙ ap (λ (t : Labelling). fall_and_outer children t p) is

    pub outer_fails : not a ≡ true → false ≡ intervals_pass children (labelling_read z l) p
    outer_fails f = and_fails outer (block_passes children (labelling_read z l) p) f

    pub block_decides : {b : Bool} → not a ≡ false → b ≡ block_passes children (labelling_read z l) p → b ≡ intervals_pass children (labelling_read z l) p
    block_decides t e = and_goes outer t e
