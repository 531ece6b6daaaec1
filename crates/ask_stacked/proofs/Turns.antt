-- One child's turn: rule 2 ends the walk, or the child is passed over, or it is opened; then its row is on top, and what is left of the row that it came from is a frame.
use mathlib.Core.Bool.{Bool, true, false, ◌||◌}
use mathlib.Core.Path.{◌≡◌, sym, ap, ◌∙◌}
use mathlib.Core.List.{List, ◌∷◌}
use Prim.Native.Nat.{ℕ, suc, ◌+◌, ◌-◌, ◌*◌, ◌≤◌, ◌<◌}
use native.Mathlib.Decide.{ℕ_discrete}
use native.Mathlib.Nat.{mul-le-mul_right}
use native.Mathlib.Omega.{arith}
use native.Mathlib.Numerals.{add-one}
use lib.Dec.{eqb}
use lib.ListN.{length, get_or, set}
use Rattle.lineage.specs.Lists.{ones}
use Rattle.lineage.specs.Numbers.{num_at}
use Rattle.lineage.specs.Walk.{Net, Walked, walked, added, marked}
use Rattle.laws.proofs.Parts.{part_first}
use Rattle.laws.proofs.Tests.{or_false_left}
use Rattle.numbers.proofs.Regions.{kept_then}
use Rattle.numbers.proofs.Numbers.{numbers_long, numbers_at}
use Rattle.stored.specs.Sections.{labels_in}
use Rattle.ask_intervals.specs.declared.Judged.TheVariants.{Inside, Outside}
use Rattle.ask_intervals.specs.Intervals.{judged}
use Rattle.ask_walk.specs.Fit.{count, all, net_in, skips, Fit}
use Rattle.ask_walk.proofs.Counting.{ones_low}
use Rattle.ask_walk.proofs.Nets.{net_spot}
use Rattle.ask_walk.proofs.Passing.{skip_over, judged_hit, judged_cut, judged_missed, judged_free}
use Rattle.ask_walk.proofs.Turns.{Untold}
use Rattle.ask_stacked.specs.declared.Row.{Row}
use Rattle.ask_stacked.specs.Entered.{Entered}
use Rattle.ask_stacked.proofs.Stack.{try_rows, added_twice, rows_hit, rows_past, rows_open, rest, frame, frames, frame_top, frame_under, frames_more, frame_kept}
use Rattle.ask_stacked.proofs.Walking.{Left, Walking, to_go, count_fits, frame_room, ends}
use Rattle.ask_stacked.proofs.Opening.{row_children, row_left, marked_long, marked_safe, marked_gain}

-- the walk is on its way, and h is the next child of the row at the top
pub record Turn (w k d t : ℕ) (groups levels starts children labels : List ℕ) (n L : ℕ) (a : Walked) (work₀ m work : List ℕ) (row : Row) (depth opened h : ℕ) : Type 0 where
  pub fit : Fit w k d t groups levels starts children labels n
  pub words : 2 * n ≤ length work₀
  pub walking : Walking w k d t groups levels starts children labels n L a work₀ m work row depth opened
  pub within : row.next < row.end
  pub child : h ≡ num_at w children row.next

module _ {w k d t : ℕ} {groups levels starts children labels : List ℕ} {n L : ℕ} {a : Walked} {work₀ m work : List ℕ} {row : Row} {depth opened h : ℕ}
    (C : Turn w k d t groups levels starts children labels n L a work₀ m work row depth opened h) where
  abbrev N : Net
  N = net_in w k d t groups levels starts children labels

  abbrev cs : List ℕ
  cs = all w children

  -- what is left of the row behind the child
  abbrev behind : Row
  behind = record { next = row.next + 1; end = row.end }

  few : row.next < count w children
  few = omega (arith, C.within, C.walking.top.end_low)

  low : (h < k) × (num_at w levels h + depth < L)
  low = rw C.child (C.walking.top.low row.next (omega arith) C.within)

  pub turn_low : h < k
  turn_low = low.0

  pub turn_room : 2 * depth + 1 < length work
  turn_room = frame_room C.walking C.words depth (omega arith)

  ahead : rest cs row ≡ h ∷ rest cs behind
  ahead =
      part_first cs row.next row.end C.within (omega (arith, C.walking.top.end_low, numbers_long w children (count w children)))
      ∙ ap (λ x. x ∷ rest cs behind) (numbers_at w children (count w children) row.next few ∙ sym C.child)

  left_behind : Left w k levels children L depth behind
  left_behind = record {
    end_low = C.walking.top.end_low;
    small = C.walking.top.small;
    low = λ i l u. C.walking.top.low i (omega arith) u;
  }

  -- it is passed over
  over : (N.yes h ≡ false) × ((marked N m h || N.no h) ≡ true) → Walking w k d t groups levels starts children labels n L a work₀ m work behind depth opened
  over p = record {
    kept = C.walking.kept;
    long = C.walking.long;
    safe = C.walking.safe;
    gain = C.walking.gain;
    deep = C.walking.deep;
    high = C.walking.high;
    top = left_behind;
    under = C.walking.under;
    left =
        ap (added opened)
        (sym (ap (λ x. try_rows N (L - depth) x (frames cs work depth) m) ahead ∙ rows_past N h (rest cs behind) m p.0 (L - depth) (frames cs work depth) p.1))
        ∙ C.walking.left;
  }

  pub past_less : to_go (count w children) m depth (row.next + 1) < to_go (count w children) m depth row.next
  past_less = omega (arith, few)

  pub turn_skip : {r : Bool} → r ≡ skips w t groups levels m h → r ≡ true → Walking w k d t groups levels starts children labels n L a work₀ m work behind depth opened
  turn_skip is e = over (skip_over C.fit C.walking.safe turn_low is e)

  pub turn_cut : {l : ℕ} → Outside l ≡ judged h t (labels_in w 3 labels k d) → Walking w k d t groups levels starts children labels n L a work₀ m work behind depth opened
  turn_cut told = over (judged_cut C.fit C.walking.safe turn_low told)

  -- rule 2 ends the walk
  pub turn_hit : {l : ℕ} → Inside l ≡ judged h t (labels_in w 3 labels k d) → walked true l opened m ≡ a
  turn_hit {l} told =
      let y = judged_hit C.fit C.walking.safe turn_low told in
      ends C.walking true l
      (ap (λ z. try_rows N (L - depth) z (frames cs work depth) m) ahead
      ∙ rows_hit N h (rest cs behind) m (L - depth) (frames cs work depth) y.0
      ∙ ap (λ z. walked true z 0 m) (sym y.1))

  -- no test decides it: it is opened
  module _ (U : Untold w k d t groups levels labels m h) {m' work' : List ℕ} {row' : Row} (E : Entered w groups starts h m m' row')
      (noted : work' ≡ set (set work (2 * depth) (row.next + 1)) (2 * depth + 1) row.end) where
    missed : N.yes h ≡ false
    missed = judged_missed C.fit C.walking.safe turn_low U.told

    passes : (marked N m h || N.no h) ≡ false
    passes = judged_free C.fit C.walking.safe turn_low U.told U.is U.passes

    free : eqb (get_or m (num_at w groups h) 0) 1 ≡ false
    free = rw (net_spot C.fit h turn_low) (or_false_left (marked N m h) (N.no h) passes)

    gain : ones m' ≡ suc (ones m)
    gain = marked_gain C.fit turn_low E C.walking.long free missed C.walking.safe

    long : length m' ≡ n
    long = marked_long C.fit turn_low E C.walking.long free missed C.walking.safe

    opens : try_rows N (L - depth) (rest cs row) (frames cs work depth) m ≡ added 1 (try_rows N (L - (depth + 1)) (rest cs row') (frames cs work' (depth + 1)) m')
    opens =
        let one : L - depth ≡ suc (L - (depth + 1)) = omega (arith, low.1) in
        let marks : set m (N.spot h) 1 ≡ m' = rw (← net_spot C.fit h turn_low) (sym E.marked) in
        let stack : rest cs behind ∷ frames cs work depth ≡ frames cs work' (depth + 1) =
        sym (frames_more work depth behind turn_room cs) ∙ λ i. frames cs (sym noted i) (sym (add-one depth) i) in
        (λ i. try_rows N (one i) (ahead i) (frames cs work depth) m)
        ∙ rows_open N h (rest cs behind) m missed (L - (depth + 1)) passes (frames cs work depth)
        ∙ λ i. added 1 (try_rows N (L - (depth + 1)) (sym (row_children C.fit turn_low E) i) (stack i) (marks i))

    under_now : (j : ℕ) → j < depth + 1 → Dec (j ≡ depth) → Left w k levels children L j (frame work' j)
    under_now j b (yes x) = rw (x, noted, frame_top work depth behind turn_room) left_behind
    under_now j b (no x) = let l : j < depth = omega arith in rw (noted, frame_under work depth behind turn_room j l) (C.walking.under j l)

    pub turn_in : Walking w k d t groups levels starts children labels n L a work₀ m' work' row' (depth + 1) (opened + 1)
    turn_in = record {
      kept = kept_then C.walking.kept (rw noted (frame_kept work depth behind turn_room (2 * n) (omega (arith, C.walking.deep, count_fits C.walking))));
      long = long;
      safe = marked_safe C.fit turn_low E C.walking.long free missed C.walking.safe;
      gain = omega (arith, gain, C.walking.gain);
      deep = omega (arith, C.walking.deep);
      high = omega (arith, low.1);
      top = row_left C.fit turn_low E L (depth + 1) (omega (arith, low.1));
      under = λ j b. under_now j b (ℕ_discrete j depth);
      left = added_twice opened 1 _ ∙ ap (added opened) (sym opens) ∙ C.walking.left;
    }

    pub in_less : to_go (count w children) m' (depth + 1) row'.next < to_go (count w children) m depth row.next
    in_less =
        let less : 2 * (length m' - ones m') + (depth + 1) < 2 * (length m - ones m) + depth = omega (arith, gain, long, C.walking.long, ones_low m') in
        omega (arith, mul-le-mul_right (count w children + 2) less)
