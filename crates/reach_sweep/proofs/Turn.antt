-- One turn of the sweep. Where the group is marked its children are marked too, and nothing else changes: no mark is taken away, and a group that is
-- marked afterwards was marked before or is a child of the group.
use mathlib.Core.Bool.{Bool, true, false}
use mathlib.Core.Logic.{◌⊎◌, inl, inr}
use mathlib.Core.Path.{◌≡◌, refl, sym, subst}
use mathlib.Core.List.{List, [], map}
use Prim.Native.Nat.{ℕ, ◌<◌}
use native.Mathlib.Omega.{arith}
use lib.ListN.{length, get_or, drop}
use borrow.Author.Tests.{eqb-true, eq-eqb}
use Rattle.lineage.specs.Lists.{among}
use Rattle.lineage.specs.Sound.{child_of}
use Rattle.laws.proofs.Lists.{in_map, of_map}
use Rattle.numbers.proofs.Marks.{marks_long, marks_past, marks_keep, marks_give, marks_from}
use Rattle.reach_sweep.specs.Sweep.{marked, row_marked, turn}

-- a row: the names of its groups are marked
module _ (groups : List ℕ) where
  abbrev name : ℕ → ℕ
  name q = get_or groups q 0

  pub row_long : (row marks : List ℕ) → length (row_marked groups row marks) ≡ length marks
  unfolding row_marked
  row_long row marks = marks_long (map name row) marks

  row_keeps : (row marks : List ℕ) (j : ℕ) → get_or marks j 0 ≡ 1 → get_or (row_marked groups row marks) j 0 ≡ 1
  unfolding row_marked
  row_keeps row marks = marks_keep (map name row) marks

  row_gives :
      (row marks : List ℕ) (q : ℕ) → get_or groups q 0 < length marks → among q row ≡ true → get_or (row_marked groups row marks) (get_or groups q 0) 0 ≡ 1
  unfolding row_marked
  row_gives row marks q l i = marks_give (map name row) marks (name q) l (in_map name q row i)

  row_from :
      (row marks : List ℕ) (j : ℕ) → get_or (row_marked groups row marks) j 0 ≡ 1
      → (get_or marks j 0 ≡ 1) ⊎ ((q : ℕ) × (among q row ≡ true) × (j ≡ get_or groups q 0))
  unfolding row_marked
  row_from row marks j h = elim (marks_from (map name row) marks j h) [ inl m ↦ inl m | inr i ↦ inr (of_map name j row i) ]

  row_past : (n : ℕ) (row marks : List ℕ) → ((q : ℕ) → among q row ≡ true → get_or groups q 0 < n) → drop n (row_marked groups row marks) ≡ drop n marks
  unfolding row_marked
  row_past n row marks low =
      marks_past n (map name row) marks (λ x i. let (q, j, e) = of_map name x row i in omega (arith, low q j))

-- the turn of p
module _ (groups : List ℕ) (children : List (List ℕ)) (p : ℕ) (marks : List ℕ) where
  pub turn_marked : marked groups marks p ≡ true → turn groups children p marks ≡ row_marked groups (get_or children p []) marks
  unfolding turn
  turn_marked h = rw h

  pub turn_passed : marked groups marks p ≡ false → turn groups children p marks ≡ marks
  unfolding turn
  turn_passed h = rw h

  -- what holds after the row is marked, and without, holds after the turn
  either :
      (P : List ℕ → Type 0) → (marked groups marks p ≡ true → P (row_marked groups (get_or children p []) marks)) → P marks → P (turn groups children p marks)
  either P with_row without = at (marked groups marks p) refl
    where
      at : (b : Bool) → marked groups marks p ≡ b → P (turn groups children p marks)
      at true e = subst P (sym (turn_marked e)) (with_row e)
      at false e = subst P (sym (turn_passed e)) without

  pub turn_long : length (turn groups children p marks) ≡ length marks
  turn_long = either (λ m. length m ≡ length marks) (λ e. row_long groups (get_or children p []) marks) refl

  pub turn_past : (n : ℕ) → ((q : ℕ) → among q (get_or children p []) ≡ true → get_or groups q 0 < n) → drop n (turn groups children p marks) ≡ drop n marks
  turn_past n low = either (λ m. drop n m ≡ drop n marks) (λ e. row_past groups n (get_or children p []) marks low) refl

  -- no mark is taken away
  pub turn_keeps : (q : ℕ) → marked groups marks q ≡ true → marked groups (turn groups children p marks) q ≡ true
  turn_keeps q h =
      either (λ m. marked groups m q ≡ true)
      (λ e. eq-eqb _ 1 (row_keeps groups (get_or children p []) marks (get_or groups q 0) (eqb-true _ 1 h))) h

  -- the children of a marked group are marked
  pub turn_gives :
      (q : ℕ) → get_or groups q 0 < length marks → marked groups marks p ≡ true → child_of children p q ≡ true
      → marked groups (turn groups children p marks) q ≡ true
  turn_gives q l h i = rw (turn_marked h) (eq-eqb _ 1 (row_gives groups (get_or children p []) marks q l i))

  -- a mark comes from before, or is that of a child of a marked group
  pub turn_from :
      (j : ℕ) → get_or (turn groups children p marks) j 0 ≡ 1
      → (get_or marks j 0 ≡ 1) ⊎ ((q : ℕ) × (marked groups marks p ≡ true) × (child_of children p q ≡ true) × (j ≡ get_or groups q 0))
  turn_from j =
      either (λ m. get_or m j 0 ≡ 1 → (get_or marks j 0 ≡ 1) ⊎ ((q : ℕ) × (marked groups marks p ≡ true) × (child_of children p q ≡ true) × (j ≡ get_or groups q 0)))
      (λ e h. elim (row_from groups (get_or children p []) marks j h) [ inl m ↦ inl m | inr (q, i, is) ↦ inr (q, e, i, is) ])
      (λ h. inl h)
