-- The test of groups as its parts: the lengths that it asks for hold by the counts, and starts and rows that have passed are what later tests ask for.
use mathlib.Core.Bool.{true, ◌&&◌}
use mathlib.Core.Path.{◌≡◌, refl, sym, ◌∙◌}
use mathlib.Core.List.{List}
use Prim.Native.Nat.{ℕ, ◌+◌}
use lib.ListN.{length}
use borrow.Author.Tests.{eq-eqb}
use Rattle.lineage.specs.Lists.{all_below}
use Rattle.lineage.specs.Numbers.{numbers}
use Rattle.lineage.specs.Sound.{names_pass, row_passes, level_passes, groups_pass, starts_pass}
use Rattle.laws.proofs.Tests.{and_left, and_right}
use Rattle.stored.specs.Sections.{children_in}
use Rattle.stored.proofs.Sections.{children_long}
use Rattle.stored.specs.Rows.{Children, Places}
use Rattle.sound_groups.specs.Tests.{row_and_level}
use Rattle.sound_groups.proofs.Both.{both_below}

pub groups_is : (w k c : ℕ) (names groups levels starts children : List ℕ) → length groups ≡ k → length levels ≡ k
    → (names_pass names groups && all_below k (row_and_level (children_in w starts children k c) levels)) ≡ groups_pass names groups levels (children_in w starts children k c)
unfolding groups_pass
groups_is w k c names groups levels starts children G L =
    rw (
      children_long w starts children k c,
      G,
      L,
      eq-eqb k k refl,
      both_below k (row_passes (children_in w starts children k c)) (level_passes (children_in w starts children k c) levels),
    )

-- the children of groups that have passed are places
pub places_passed : {w k c : ℕ} {starts children : List ℕ} (names groups levels : List ℕ) → Children w starts children k c → length groups ≡ k → length levels ≡ k
    → (starts_pass (numbers w starts (k + 1)) k c && groups_pass names groups levels (children_in w starts children k c)) ≡ true
    → Places w starts children k c
places_passed {w} {k} {c} {starts} {children} names groups levels E G L t =
    let R = all_below k (row_passes (children_in w starts children k c)) in
    let g = groups_is w k c names groups levels starts children G L ∙ and_right (starts_pass (numbers w starts (k + 1)) k c) _ t in
    record {
      entries = E;
      passed = and_left R _
          (sym (both_below k (row_passes (children_in w starts children k c)) (level_passes (children_in w starts children k c) levels)) ∙ and_right (names_pass names groups) _ g);
    }
