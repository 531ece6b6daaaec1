-- Who is nobody's child, by marks. The rows joined are all child entries, so marking or counting the entries on cleared marks tells it; and clearing again
-- leaves nothing of it.
use mathlib.Core.Bool.{Bool, true, false, not, ◌&&◌, cond, and-true}
use mathlib.Core.Path.{◌≡◌, sym, ap, ◌∙◌}
use mathlib.Core.List.{List, []}
use Prim.Native.Nat.{ℕ, ◌+◌, ◌≤◌, ◌<◌}
use native.Mathlib.Omega.{arith}
use lib.Dec.{eqb}
use lib.ListN.{length, get_or}
use borrow.Author.Tests.{eq-eqb}
use Rattle.lineage.specs.Lists.{among, position, joined, cleared}
use Rattle.lineage.specs.Labels.{nobodys_child}
use Rattle.lineage.specs.Numbers.{numbers}
use Rattle.laws.proofs.Positions.{in_get_d, position_low, at_position}
use Rattle.laws.proofs.Joined.{joined_in}
use Rattle.laws.proofs.Starts.{pass_laid, rows_joined}
use Rattle.numbers.specs.Marks.{mark_all}
use Rattle.numbers.proofs.Marks.{marks_long}
use Rattle.numbers.proofs.Cleared.{cleared_long, cleared_at}
use Rattle.numbers.proofs.Numbers.{numbers_long}
use Rattle.stored.specs.Sections.{children_in}
use Rattle.stored.proofs.Sections.{children_long}
use Rattle.stored.specs.Rows.{Places}
use Rattle.stored.proofs.Row.{row_low}
use Rattle.sound_blocks.specs.Marks.{unmarked, Tells}
use Rattle.sound_parents.specs.Fit.{Within}
use Rattle.sound_parents.specs.Told.{count_all, tell_all}
use Rattle.sound_parents.proofs.Marks.{marked_at, marked_cleared}
use Rattle.sound_parents.proofs.Counted.{counts_long, counted_at, counted_cleared}

module _ {w k c : ℕ} {starts children : List ℕ} (P : Places w starts children k c) where
  abbrev rows : List (List ℕ)
  rows = children_in w starts children k c

  abbrev entries : List ℕ
  entries = numbers w children c

  -- the rows joined are the child entries
  pub joined_is : joined rows ≡ entries
  unfolding children_in
  joined_is = rows_joined (pass_laid (numbers w starts (k + 1)) k c P.entries.rows.passed entries (numbers_long w children c))

  member_low : (x : ℕ) → among x entries ≡ true → x < k
  member_low x i =
      let (p, h, j) = joined_in rows x (rw joined_is i) in
      let low : p < k = omega (arith, children_long w starts children k c) in
      rw (at_position x (get_or rows p []) j) at (row_low P low (position x (get_or rows p [])) (position_low x (get_or rows p []) j))

  pub entries_within : Within entries k
  entries_within = record { low = λ j h. member_low (get_or entries j 0) (in_get_d entries j h) }

  -- marks cleared, then told of the child entries, tell who is nobody's child; cleared again, they are as cleared at first
  module _ {n : ℕ} (z : ℕ) (first : List ℕ) {told : List ℕ} (small : k ≤ n) (room : n ≤ length first) (told_is : told ≡ tell_all z entries (cleared n first)) where
    abbrev clear : List ℕ
    clear = cleared n first

    clear_long : length clear ≡ length first
    clear_long = cleared_long n first room

    tell_long : (b : Bool) → length (cond b (count_all entries clear) (mark_all entries clear)) ≡ length clear
    tell_long true = counts_long entries clear
    tell_long false = marks_long entries clear

    tell_at : (p : ℕ) → p < k → (b : Bool) → unmarked (cond b (count_all entries clear) (mark_all entries clear)) p ≡ not (among p entries)
    tell_at p h true = counted_at entries clear p (omega (arith, clear_long)) (cleared_at n first p (omega arith))
    tell_at p h false =
        marked_at entries clear p (omega (arith, clear_long))
        ∙ ap (λ (b : Bool). not (among p entries) && b) (eq-eqb (get_or clear p 0) 0 (cleared_at n first p (omega arith)))
        ∙ and-true (not (among p entries))

    tell_cleared : (b : Bool) → cleared n (cond b (count_all entries clear) (mark_all entries clear)) ≡ clear
    tell_cleared true = counted_cleared entries n first (λ q i. omega (arith, member_low q i))
    tell_cleared false = marked_cleared entries n first (λ q i. omega (arith, member_low q i))

    pub tells : Tells rows told k
    unfolding nobodys_child
    tells = record {
      long = omega (arith, ap length told_is, tell_long (eqb z 2), clear_long);
      right = λ p h.
          ap (λ (marks : List ℕ). unmarked marks p) told_is
          ∙ tell_at p h (eqb z 2)
          ∙ ap (λ (qs : List ℕ). not (among p qs)) (sym joined_is);
    }

    pub told_cleared : {last : List ℕ} → last ≡ cleared n told → last ≡ cleared n first
    told_cleared e = e ∙ ap (cleared n) told_is ∙ tell_cleared (eqb z 2)
