-- Second parents by child entries. A row rises, so a group stands in it once, and it has as many parents as entries: a group is a child of two others exactly where it
-- stands twice among the entries.
use mathlib.Core.Bool.{Bool, true, not, not-not, ◌||◌}
use mathlib.Core.Path.{◌≡◌, sym, ap, ◌∙◌}
use mathlib.Core.List.{List, []}
use Prim.Native.Nat.{ℕ, ◌≤◌, ◌<◌}
use native.Mathlib.Omega.{arith}
use lib.Dec.{eqb, ltb}
use lib.ListN.{length, get_or}
use borrow.Author.Tests.{eq-eqb}
use Rattle.std.specs.Prelude.{Option, is_some}
use Rattle.lineage.specs.Lists.{upto, any, among, those, first_of, position, cleared, Every}
use Rattle.lineage.specs.Numbers.{numbers}
use Rattle.lineage.specs.Sound.{shared, is_tree}
use Rattle.laws.specs.Rising.{Distinct}
use Rattle.laws.proofs.Lists.{any_same, upto_low}
use Rattle.laws.proofs.Positions.{position_low, at_position}
use Rattle.laws.proofs.Rising.{next_rises, rises_distinct}
use Rattle.laws.proofs.Every.{every_get_d}
use Rattle.laws_hierarchy.proofs.Shared.{parents_entries}
use Rattle.numbers.specs.Found.{found_below}
use Rattle.numbers.proofs.Cleared.{cleared_long, cleared_at}
use Rattle.stored.specs.Sections.{children_in}
use Rattle.stored.specs.Rows.{Places}
use Rattle.stored.proofs.Sections.{children_long}
use Rattle.stored.proofs.Row.{row_up}
use Rattle.sound_parents.specs.Fit.{Within}
use Rattle.sound_parents.specs.Told.{count_all, marked_twice, twice, tell_all}
use Rattle.sound_parents.proofs.Counted.{counted_twice, counted_cleared}
use Rattle.numbers.proofs.Found.{first_same, found_tells}
use Rattle.sound_parents.proofs.Nobody.{joined_is}

-- marks of k groups, cleared and then counted: the first that is 2 is that of the first number that stands twice; cleared again, nothing of it is left
module _ (qs : List ℕ) (n k : ℕ) (first : List ℕ) {clear told : List ℕ} (clear-is : clear ≡ cleared n first) (told_is : told ≡ count_all qs clear) where
  counted : told ≡ count_all qs (cleared n first)
  counted = told_is ∙ ap (count_all qs) clear-is

  first_marked : k ≤ n → n ≤ length first → first_of (marked_twice told) (upto k) k ≡ first_of (twice qs) (upto k) k
  first_marked small room =
      ap (λ (marks : List ℕ). first_of (marked_twice marks) (upto k) k) counted
      ∙ first_same (marked_twice (count_all qs (cleared n first))) (twice qs) (upto k) k
      (λ p i. let low : p < k = upto_low k p i in
      counted_twice qs (cleared n first) p (omega (arith, cleared_long n first room)) (cleared_at n first p (omega arith)))

  pub twice_found : k ≤ n → n ≤ length first → {o : Option ℕ} → o ≡ found_below k (first_of (marked_twice told) (upto k) k)
      → o ≡ found_below k (first_of (twice qs) (upto k) k)
  twice_found small room e = e ∙ ap (found_below k) (first_marked small room)

  pub counted_left : k ≤ n → ((q : ℕ) → among q qs ≡ true → q < k) → {last : List ℕ} → last ≡ cleared n told → last ≡ cleared n first
  counted_left small low e = e ∙ ap (cleared n) counted ∙ counted_cleared qs n first (λ q i. let here : q < k = low q i in omega arith)

  -- as the test tells it where labels are in pairs
  module _ {z : ℕ} (pairs : z ≡ 2) where
    pub pairs_pass : k ≤ n → n ≤ length first → {o : Option ℕ} {b : Bool} → o ≡ found_below k (first_of (marked_twice told) (upto k) k) → is_some o ≡ not b
        → b ≡ (not (eqb z 2) || not (any (twice qs) (upto k)))
    pairs_pass small room {b = b} e is = rw (eq-eqb z 2 pairs) (sym (not-not b) ∙ ap not (sym is ∙ found_tells (twice qs) k (twice_found small room e)))

    pub pairs_told : told ≡ tell_all z qs (cleared n first)
    pairs_told = rw (eq-eqb z 2 pairs) counted

-- entries within k groups
pub within_low : {entries : List ℕ} {k : ℕ} → Within entries k → (q : ℕ) → among q entries ≡ true → q < k
within_low {entries} W q i = omega (arith, W.low (position q entries) (position_low q entries i), at_position q entries i)

module _ {w k c : ℕ} {starts children : List ℕ} (P : Places w starts children k c) where
  abbrev rows : List (List ℕ)
  rows = children_in w starts children k c

  abbrev entries : List ℕ
  entries = numbers w children c

  rows_once : Every Distinct rows
  rows_once =
      every_get_d Distinct [] rows
      (λ p h. rises_distinct (get_or rows p []) (next_rises (get_or rows p []) (row_up P (omega (arith, children_long w starts children k c)))))

  -- a child of two others
  pub shared_is : (p : ℕ) → shared rows p ≡ twice entries p
  shared_is p = ap (ltb 1) (parents_entries rows p rows_once ∙ ap (λ (qs : List ℕ). length (those (eqb p) qs)) (joined_is P))

  -- so the children are a plain hierarchy where none stands twice, and otherwise the first that does is the first child of two others
  pub tree_is : not (any (twice entries) (upto k)) ≡ is_tree rows
  unfolding is_tree
  tree_is =
      ap not
      (any_same (twice entries) (shared rows) (upto k) (λ p i. sym (shared_is p)) ∙ ap (λ (n : ℕ). any (shared rows) (upto n)) (sym (children_long w starts children k c)))

  pub single_is : (z : ℕ) → (not (eqb z 2) || not (any (twice entries) (upto k))) ≡ (not (eqb z 2) || is_tree rows)
  single_is z = ap (λ (b : Bool). not (eqb z 2) || b) tree_is

  pub shared_first : first_of (twice entries) (upto k) k ≡ first_of (shared rows) (upto (length rows)) (length rows)
  shared_first =
      first_same (twice entries) (shared rows) (upto k) k (λ p i. sym (shared_is p))
      ∙ ap (λ (n : ℕ). first_of (shared rows) (upto n) n) (sym (children_long w starts children k c))
