-- A child read of its row; and e along the children of one group, from what was read of them; b is what is asked after it.
use mathlib.Core.Bool.{Bool, false, ◌&&◌}
use mathlib.Core.Path.{◌≡◌, ◌∙◌}
use mathlib.Core.List.{List, []}
use Prim.Native.Nat.{ℕ, ◌+◌, ◌≤◌, ◌<◌}
use native.Mathlib.Omega.{arith}
use lib.Dec.{ltb}
use lib.ListN.{length, get_or}
use borrow.Author.Tests.{lt-ltb, le-ltb}
use Rattle.lineage.specs.Lists.{all_below}
use Rattle.lineage.specs.Labels.{Labelling}
use Rattle.lineage.specs.Sound.{fall_passes}
use Rattle.laws.proofs.Lists.{all_broken}
use Rattle.laws.proofs.Passed.{Passed, passed_next, passed_all}
use Rattle.stored.specs.Rows.{Places}
use Rattle.stored.specs.Sections.{children_in}
use Rattle.stored.proofs.Row.{row_low}
use Rattle.sound_ranks.specs.Tests.{falls_to}

-- a child is a place
pub child_low : {w k c p i len q : ℕ} {starts children row : List ℕ} → Places w starts children k c → p < k
    → row ≡ get_or (children_in w starts children k c) p []
    → len ≡ length (get_or (children_in w starts children k c) p [])
    → i < len
    → q ≡ get_or row i 0
    → q < k
child_low {i = i} P low is has h e = omega (arith, row_low P low i (omega (arith, has)), rw is at e)

module _ (l : Labelling) (children : List (List ℕ)) (p : ℕ) {len : ℕ} {row : List ℕ}
    (is : row ≡ get_or children p []) (has : len ≡ length (get_or children p []))
  where
    passes_is : all_below len (falls_to children l p) ≡ fall_passes children l p
    passes_is = rw has

    module _ {i q x top : ℕ} (low : i < len) (child : q ≡ get_or row i 0) (its : x ≡ get_or l.e q 0) (own : top ≡ get_or l.e p 0) where
      these : falls_to children l p i ≡ ltb x top
      these = rw (← is, ← child, ← its, ← own)

      pub falls_more : Passed (falls_to children l p) len i → x < top → Passed (falls_to children l p) len (i + 1)
      falls_more P h = passed_next P low (these ∙ lt-ltb x top h)

      pub falls_not : (b : Bool) → top ≤ x → false ≡ (fall_passes children l p && b)
      falls_not b h = rw (← passes_is, all_broken (falls_to children l p) len i low (these ∙ le-ltb x top h))

    pub falls_all : {i : ℕ} {a b : Bool} → Passed (falls_to children l p) len i → len ≤ i → a ≡ b → a ≡ (fall_passes children l p && b)
    falls_all P h t = rw (← passes_is, ← (passed_all P h)) t
