-- The net that fit sections hold, field by field as the code reads it, and a group of it opened.
use mathlib.Core.Bool.{Bool, true, false}
use mathlib.Core.Logic.{◌≢◌}
use mathlib.Core.Path.{◌≡◌, refl, sym, ◌∙◌}
use mathlib.Core.List.{List, [], ◌∷◌}
use Prim.Native.Nat.{ℕ, suc, ◌+◌, ◌-◌, ◌≤◌, ◌<◌}
use native.Mathlib.Omega.{arith}
use lib.ListN.{length, get_or, set, length-set}
use borrow.Author.Tests.{lt-ltb, le-ltb, ne_eqb}
use Rattle.lineage.specs.Lists.{Every}
use Rattle.lineage.specs.Numbers.{num_at}
use Rattle.lineage.specs.Walk.{Net, walked, open_at, try_at}
use Rattle.lineage.specs.Question.{inside, first_labelling}
use Rattle.laws.proofs.Positions.{ones_set}
use Rattle.ask_intervals.proofs.Deciding.{first_given}
use Rattle.numbers.proofs.Numbers.{numbers_at}
use Rattle.stored.specs.Sections.{ChildrenOf, children_in, labels_in}
use Rattle.stored.proofs.Sections.{row_long, row_at_lem}
use Rattle.ask_walk.specs.Fit.{count, all, net_in, Fit, Safe}
use Rattle.ask_walk.proofs.Rows.{row_all}
use Rattle.ask_walk.proofs.Counting.{Within, Gains, try_gains, open_gains, ones_low, safe_set, open_safe}
use Rattle.ask_walk.proofs.Trying.{open_is}

-- a property of each element by its position
every_by : (P : ℕ → Type 0) (xs : List ℕ) → ((i : ℕ) → i < length xs → P (get_or xs i 0)) → Every P xs
every_by P [] h = tt
every_by P (x ∷ xs) h = (h 0 (omega arith), every_by P xs (λ i l. h (suc i) (omega arith)))

module _ {w k d t : ℕ} {groups levels starts children labels : List ℕ} {marks : ℕ} (F : Fit w k d t groups levels starts children labels marks) where
  abbrev N : Net
  N = net_in w k d t groups levels starts children labels

  -- rule 2 of h, from what the inner test gives
  module _ (h l : ℕ) (e : l ≡ first_labelling (inside h t) (labels_in w 3 labels k d)) where
    pub net_deciding : l ≡ N.deciding h
    unfolding net_in
    net_deciding = e

    pub net_yes : 0 < l → N.yes h ≡ true
    unfolding net_in
    net_yes b = first_given (inside h t) (labels_in w 3 labels k d) ∙ rw (← e) (lt-ltb 0 l b)

    pub net_not_yes : l ≤ 0 → N.yes h ≡ false
    unfolding net_in
    net_not_yes b = first_given (inside h t) (labels_in w 3 labels k d) ∙ rw (← e) (le-ltb 0 l b)

  -- a group's mark stands at its name
  pub net_spot : (g : ℕ) → g < k → num_at w groups g ≡ N.spot g
  unfolding net_in
  net_spot g h = sym (numbers_at w groups k g h)

  pub net_children : (g : ℕ) → get_or (children_in w starts children k (count w children)) g [] ≡ N.children g
  unfolding net_in
  net_children g = refl

  -- the walk stays among the groups and their marks
  children_low : (p : ℕ) → p < k → Every (λ h. h < k) (get_or (children_in w starts children k (count w children)) p [])
  children_low p h = every_by (λ q. q < k) (get_or (children_in w starts children k (count w children)) p []) at
    where
      at : (i : ℕ) → i < length (get_or (children_in w starts children k (count w children)) p [])
          → get_or (get_or (children_in w starts children k (count w children)) p []) i 0 < k
      at i l =
          let j : i < num_at w starts (p + 1) - num_at w starts p =
          omega (arith, row_long w starts children k (count w children) p h (F.start_rises p h) (F.end_low p h)) in
          rw (row_at_lem w starts children k (count w children) p h (F.start_rises p h) (F.end_low p h) i j)
          (F.child_low p (num_at w starts p + i) h (omega arith) (omega arith))

  pub net_within : Within N k marks
  net_within = record {
    children = λ p h. rw (← net_children p) (children_low p h);
    spots = λ p h. rw (← net_spot p h) (F.name_low p h);
  }

  -- marks are safe behind an opening
  own : (p q : ℕ) → p < k → q < k → N.spot p ≡ N.spot q → p ≡ q
  own p q b c e = F.name_one p q b c (net_spot p b ∙ e ∙ sym (net_spot q c))

  pub net_marked : (g name : ℕ) (m : List ℕ) → g < k → name ≡ num_at w groups g → N.yes g ≡ false → Safe N k m → Safe N k (set m name 1)
  net_marked g name m low named not-hit S = rw (named ∙ net_spot g low) (safe_set N net_within.children own g m low not-hit S)

  pub net_safe : (L h : ℕ) (m : List ℕ) → h < k → N.yes h ≡ false → Safe N k m → Safe N k (open_at N L h m).marks
  net_safe L h m = open_safe N net_within.children own L h m

  -- opening g: its name and its row were read, and its row was tried
  module _ (g name L : ℕ) (row m : List ℕ) (f : Bool) (l n : ℕ) (m' : List ℕ) (low : g < k) (named : name ≡ num_at w groups g) (P : ChildrenOf starts children w g row)
      (e : walked f l n m' ≡ try_at N L (all w row) (set m name 1)) where
    pub open_done : walked f l (1 + n) m' ≡ open_at N (L + 1) g m
    open_done = open_is N L g name (all w row) m f l n m' (named ∙ net_spot g low) (row_all F g low row P ∙ net_children g) e

    pub open_count : length m ≡ marks → get_or m (num_at w groups g) 0 ≢ 1 → 1 + n ≤ marks
    open_count long free =
        let G : Gains (set m name 1) (walked f l n m') =
        rw e
        (try_gains N net_within (open_at N L) (open_gains N net_within L) (all w row) (rw (row_all F g low row P, net_children g) (net_within.children g low))
        (set m name 1) (length-set m name 1 ∙ long)) in
        omega (
          arith,
          G.long,
          G.gain,
          ones_low m',
          length-set m name 1,
          ones_set m name (omega (arith, F.name_low g low)) (ne_eqb _ _ (rw (← named) at free)),
        )
