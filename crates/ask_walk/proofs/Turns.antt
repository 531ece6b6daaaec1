-- One child's turn in its row: rule 2 ends the walk, or the child is passed over, or it is opened; and after the last child nothing is left.
use mathlib.Core.Bool.{Bool, true, false, ◌||◌}
use mathlib.Core.Logic.{◌≢◌}
use mathlib.Core.Path.{◌≡◌, sym, subst, ◌∙◌}
use mathlib.Core.List.{List}
use Prim.Native.Nat.{ℕ, ◌+◌, ◌-◌, ◌*◌, ◌≤◌, ◌<◌}
use native.Mathlib.Omega.{arith}
use lib.ListN.{length, get_or}
use borrow.Author.Tests.{eqb-false}
use Rattle.lineage.specs.Numbers.{num_at}
use Rattle.lineage.specs.Walk.{Net, Walked, walked, marked, open_at, try_at}
use Rattle.laws.proofs.Tests.{or_false_left}
use Rattle.numbers.proofs.Numbers.{room, numbers_long, numbers_at}
use Rattle.stored.specs.Sections.{labels_in}
use Rattle.ask_walk.specs.Fit.{count, all, net_in, skips, Fit, Safe, Below}
use Rattle.ask_walk.proofs.Counting.{Gains, ones_low, open_gains}
use Rattle.ask_walk.proofs.Trying.{Tried, tried_all, tried_hit, tried_over, tried_found, tried_next}
use Rattle.ask_intervals.specs.declared.Judged.TheVariants.{Inside, Outside, Neither}
use Rattle.ask_intervals.specs.Intervals.{judged}
use Rattle.ask_walk.proofs.Nets.{net_spot, net_within, net_safe}
use Rattle.ask_walk.proofs.Passing.{skip_over, judged_hit, judged_cut, judged_missed, judged_free}

module _ {w k d t : ℕ} {groups levels starts children labels : List ℕ} {marks : ℕ} (F : Fit w k d t groups levels starts children labels marks)
    {L : ℕ} {row : List ℕ} (B : Below w k L levels row) {m₀ m : List ℕ} {i n : ℕ} (T : Tried (net_in w k d t groups levels starts children labels) L (all w row) m₀ m i n) where
  row_size : length (all w row) ≡ count w row
  row_size = numbers_long w row (count w row)

  -- past the last child nothing is left
  pub turns_over : count w row ≤ i → walked false 0 n m ≡ try_at (net_in w k d t groups levels starts children labels) L (all w row) m₀
  turns_over h = tried_all (net_in w k d t groups levels starts children labels) L (all w row) m₀ m i n T (omega (arith, row_size))

  -- child i is there
  module _ (lt : i < count w row) where
    pub child_room : w * i + w ≤ length row
    child_room = room w i (count w row) (length row) lt (omega (arith, B.whole))

    pub child_low : {h : ℕ} → h ≡ num_at w row i → h < k
    child_low child = rw child (B.child_low i lt)

-- Before child i, which is h, n groups are opened and the marks are m, none of them a group's of which rule 2 says yes.
pub record Turn (w k d t : ℕ) (groups levels starts children labels : List ℕ) (marks L : ℕ) (row m₀ m : List ℕ) (i n h : ℕ) : Type 0 where
  pub fit : Fit w k d t groups levels starts children labels marks
  pub below : Below w k L levels row
  pub tried : Tried (net_in w k d t groups levels starts children labels) L (all w row) m₀ m i n
  pub long : length m₀ ≡ marks
  pub within : i < count w row
  pub child : h ≡ num_at w row i
  pub safe : Safe (net_in w k d t groups levels starts children labels) k m

-- No test decides h: it is not passed over, and no labelling tells of it.
pub record Untold (w k d t : ℕ) (groups levels labels m : List ℕ) (h : ℕ) : Type 0 where
  pub told : Neither ≡ judged h t (labels_in w 3 labels k d)
  pub r : Bool
  pub is : r ≡ skips w t groups levels m h
  pub passes : r ≡ false

module _ {w k d t : ℕ} {groups levels starts children labels : List ℕ} {marks L : ℕ} {row m₀ m : List ℕ} {i n h : ℕ}
    (C : Turn w k d t groups levels starts children labels marks L row m₀ m i n h) where
  abbrev N : Net
  N = net_in w k d t groups levels starts children labels

  turn_within : i < length (all w row)
  turn_within = omega (arith, numbers_long w row (count w row), C.within)

  pub turn_low : h < k
  turn_low = child_low C.fit C.below C.tried C.within C.child

  pub turn_level : num_at w levels h < L
  turn_level = rw C.child (C.below.level_low i C.within)

  here : h ≡ get_or (all w row) i 0
  here = C.child ∙ sym (numbers_at w row (count w row) i C.within)

  over : (N.yes h ≡ false) × ((marked N m h || N.no h) ≡ true) → Tried N L (all w row) m₀ m (i + 1) n
  over e = tried_over N L (all w row) m₀ m i n C.tried h turn_within here e.0 e.1

  -- h is passed over by its level or its mark
  module _ {r : Bool} (is : r ≡ skips w t groups levels m h) where
    pub turn_skip : r ≡ true → Tried N L (all w row) m₀ m (i + 1) n
    turn_skip e = over (skip_over C.fit C.safe turn_low is e)

  -- otherwise the labellings tell of h: rule 2 ends the walk
  pub turn_hit : {l : ℕ} → Inside l ≡ judged h t (labels_in w 3 labels k d) → walked true l n m ≡ try_at N L (all w row) m₀
  turn_hit {l} told =
      let y = judged_hit C.fit C.safe turn_low told in
      tried_hit N L (all w row) m₀ m i n C.tried h turn_within here l y.0 y.1

  -- or rule 4 rules h out
  pub turn_cut : {l : ℕ} → Outside l ≡ judged h t (labels_in w 3 labels k d) → Tried N L (all w row) m₀ m (i + 1) n
  turn_cut told = over (judged_cut C.fit C.safe turn_low told)

  -- no test decides h: it is opened, one level lower
  module _ (U : Untold w k d t groups levels labels m h) where
    pub turn_missed : N.yes h ≡ false
    turn_missed = judged_missed C.fit C.safe turn_low U.told

    free : (marked N m h || N.no h) ≡ false
    free = judged_free C.fit C.safe turn_low U.told U.is U.passes

    pub turn_free : get_or m (num_at w groups h) 0 ≢ 1
    turn_free = rw (net_spot C.fit h turn_low) (eqb-false _ _ (or_false_left (marked N m h) (N.no h) free))

    module _ {f : Bool} {l' a : ℕ} {m' : List ℕ} (e : walked f l' a m' ≡ open_at N (L - 1 + 1) h m) where
      opened : walked f l' a m' ≡ open_at N L h m
      opened = let same : L - 1 + 1 ≡ L = omega (arith, turn_level) in rw same at e

      gains : Gains m (open_at N L h m)
      gains = open_gains N (net_within C.fit) L h m (C.tried.long ∙ C.long) turn_low (or_false_left (marked N m h) (N.no h) free)

      pub turn_count : n + a ≤ marks
      turn_count =
          let A : Gains m (walked f l' a m') = rw opened gains in
          omega (arith, C.tried.gain, C.tried.long, C.long, A.gain, A.long, ones_low m')

      pub turn_found : f ≡ true → walked true l' (n + a) m' ≡ try_at N L (all w row) m₀
      turn_found = tried_found N L (all w row) m₀ m i n C.tried h turn_within here f l' a m' turn_missed free opened

      pub turn_safe : Safe N k m'
      turn_safe = subst (λ (a : Walked). Safe N k a.marks) (sym opened) (net_safe C.fit L h m turn_low turn_missed C.safe)

      pub turn_next : f ≡ false → Tried N L (all w row) m₀ m' (i + 1) (n + a)
      turn_next b = tried_next N L (all w row) m₀ m i n C.tried h turn_within here f l' a m' turn_missed free opened b gains
