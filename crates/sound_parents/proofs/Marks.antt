-- What marks set at each number of a list tell: the mark of p is 0 exactly where p does not stand in the list.
use mathlib.Core.Bool.{true, not, ◌&&◌, and-false}
use mathlib.Core.Path.{◌≡◌, refl, ap, ◌∙◌}
use mathlib.Core.List.{List, [], ◌∷◌, ◌++◌}
use Prim.Native.Nat.{ℕ, ◌<◌}
use native.Mathlib.Decide.{ℕ_discrete}
use lib.ListN.{length, set, replicate, length-set}
use lib.Seq.{get_or-set_same, get_or-set_other}
use borrow.Author.Tests.{eq-eqb, ne_eqb}
use Rattle.lineage.specs.Lists.{among, cleared}
use Rattle.numbers.specs.Marks.{mark_all}
use Rattle.numbers.proofs.Cleared.{cleared_past}
use Rattle.numbers.proofs.Marks.{marks_past}
use Rattle.sound_blocks.specs.Marks.{unmarked}

-- what the marks tell of p
pub marked_at : (qs marks : List ℕ) (p : ℕ) → p < length marks → unmarked (mark_all qs marks) p ≡ (not (among p qs) && unmarked marks p)
marked_at [] marks p h = refl
marked_at (q ∷ qs) marks p h = marked_at qs (set marks q 1) p (rw (length-set marks q 1) h) ∙ at (ℕ_discrete p q)
  where
    at : Dec (p ≡ q) → (not (among p qs) && unmarked (set marks q 1) p) ≡ (not (among p (q ∷ qs)) && unmarked marks p)
    at (yes e) = rw (e, eq-eqb q q refl, get_or-set_same marks q 1 0 (rw (← e) h)) (and-false (not (among q qs)))
    at (no e) = rw (get_or-set_other marks q p 1 0 e, ne_eqb p q e)

-- marks set below n are gone when those below n are cleared again
pub marked_cleared : (qs : List ℕ) (n : ℕ) (marks : List ℕ) → ((q : ℕ) → among q qs ≡ true → q < n) → cleared n (mark_all qs (cleared n marks)) ≡ cleared n marks
unfolding cleared
marked_cleared qs n marks low =
    ap (λ (rest : List ℕ). replicate n 0 ++ rest)
    (marks_past n qs (cleared n marks) low ∙ cleared_past n marks)
