-- The walk on its way. What has been opened so far and what the rows on the stack come to make up the whole walk. The level of a child with the depth of its row stays
-- below the first group's level, so the bound lasts; frames are fewer than opened groups, each of which has a mark of its own, so the words last too.
use mathlib.Core.Bool.{Bool, false}
use mathlib.Core.Path.{◌≡◌, sym, ap, ◌∙◌}
use mathlib.Core.List.{List, []}
use Prim.Native.Nat.{ℕ, suc, ◌+◌, ◌-◌, ◌*◌, ◌^◌, ◌≤◌, ◌<◌}
use native.Mathlib.Omega.{arith}
use native.Mathlib.Nat.{add-zero, mul-le-mul_right, mul-div-le}
use lib.ListN.{length}
use Rattle.lineage.specs.Lists.{ones}
use Rattle.lineage.specs.Numbers.{num_at}
use Rattle.lineage.specs.Walk.{Net, Walked, walked, added, try_with, try_at}
use Rattle.laws.proofs.Parts.{part_empty}
use Rattle.numbers.specs.Regions.{Kept}
use Rattle.numbers.proofs.Numbers.{room}
use Rattle.ask_walk.specs.Fit.{count, all, net_in, Safe}
use Rattle.ask_walk.proofs.Counting.{ones_low}
use Rattle.ask_stacked.specs.declared.Row.{Row}
use Rattle.ask_stacked.proofs.Stack.{try_rows, rows_over, rest, frame, frames}

-- what is left of a row at a depth of the stack are groups, each of a level that with the depth is below L
pub record Left (w k : ℕ) (levels children : List ℕ) (L depth : ℕ) (row : Row) : Type 0 where
  pub end_low : row.end ≤ count w children
  pub small : row.end < 2 ^ 32
  pub low : (i : ℕ) → row.next ≤ i → i < row.end → (num_at w children i < k) × (num_at w levels (num_at w children i) + depth < L)

-- `opened` groups are opened, the marks are m of n, and `row` is the row at the top, with `depth` frames under it; the whole walk is a
pub record Walking (w k d t : ℕ) (groups levels starts children labels : List ℕ) (n L : ℕ) (a : Walked) (work₀ m work : List ℕ) (row : Row) (depth opened : ℕ) : Type 0 where
  pub kept : Kept work₀ work 0 (2 * n)
  pub long : length m ≡ n
  pub safe : Safe (net_in w k d t groups levels starts children labels) k m
  pub gain : opened ≤ ones m
  pub deep : depth < opened
  pub high : depth ≤ L
  pub top : Left w k levels children L depth row
  pub under : (j : ℕ) → j < depth → Left w k levels children L j (frame work j)
  pub left :
      added opened (try_rows (net_in w k d t groups levels starts children labels) (L - depth) (rest (all w children) row) (frames (all w children) work depth) m) ≡ a

-- opening a group that is marked already
abbrev pub opening : Net → ℕ → ℕ → List ℕ → Walked
opening N L g m = added 1 (try_at N L (N.children g) m)

-- what is left to do: a group opened takes two from the first number and gives one to the depth
abbrev pub to_go : ℕ → List ℕ → ℕ → ℕ → ℕ
to_go c m depth next = (2 * (length m - ones m) + depth) * (c + 2) + (c + 1 - next)

module _ {w k d t : ℕ} {groups levels starts children labels : List ℕ} {n L : ℕ} {a : Walked} {work₀ m work : List ℕ} {row : Row} {depth opened : ℕ}
    (W : Walking w k d t groups levels starts children labels n L a work₀ m work row depth opened) where
  abbrev N : Net
  N = net_in w k d t groups levels starts children labels

  abbrev cs : List ℕ
  cs = all w children

  -- there are marks for the opened groups, and words for the frames and one more
  pub count_fits : opened ≤ n
  count_fits = omega (arith, W.gain, W.long, ones_low m)

  pub frame_room : 2 * n ≤ length work₀ → (j : ℕ) → j ≤ depth → 2 * j + 1 < length work
  frame_room words j l = omega (arith, W.deep, count_fits, W.kept.long)

  -- where the stack's equations open nothing more, the walk is over
  pub ends : (f : Bool) (l : ℕ) → try_rows N (L - depth) (rest cs row) (frames cs work depth) m ≡ walked f l 0 m → walked f l opened m ≡ a
  ends f l z = ap (λ (x : ℕ). walked f l x m) (sym (add-zero opened)) ∙ ap (added opened) (sym z) ∙ W.left

  -- the next child
  pub child_room : row.next < row.end → w * row.next + w ≤ length children
  child_room lt = room w row.next (count w children) (length children) (omega (arith, W.top.end_low)) (mul-div-le (length children) w)

  -- the row is over
  module _ (over : row.end ≤ row.next) where
    empty : rest cs row ≡ []
    empty = part_empty cs row.next row.end over

    -- and the row under it goes on
    module _ (f : ℕ) (is : depth ≡ suc f) {under : Row} (from : under.next ≡ (frame work f).next) (to : under.end ≡ (frame work f).end) where
      same : frame work f ≡ under
      same = rw (← from, ← to)

      leaves : try_rows N (L - depth) (rest cs row) (frames cs work depth) m ≡ try_rows N (L - f) (rest cs under) (frames cs work f) m
      leaves =
          let one : suc (L - depth) ≡ L - f = omega (arith, W.high) in
          (λ i. try_rows N (L - depth) (empty i) (frames cs work (is i)) m)
          ∙ rows_over N (L - depth) (rest cs (frame work f)) (frames cs work f) m
          ∙ λ i. try_rows N (one i) (rest cs (same i)) (frames cs work f) m

      pub walking_out : Walking w k d t groups levels starts children labels n L a work₀ m work under f opened
      walking_out = record {
        kept = W.kept;
        long = W.long;
        safe = W.safe;
        gain = W.gain;
        deep = omega (arith, W.deep);
        high = omega (arith, W.high);
        top = rw same at (W.under f (omega arith));
        under = λ j b. W.under j (omega arith);
        left = ap (added opened) (sym leaves) ∙ W.left;
      }

      pub out_less : to_go (count w children) m f under.next < to_go (count w children) m depth row.next
      out_less = let less : 2 * (length m - ones m) + f < 2 * (length m - ones m) + depth = omega arith in omega (arith, mul-le-mul_right (count w children + 2) less)

    -- or, with no row under it, the walk is over
    pub walking_end : depth ≡ 0 → walked false 0 opened m ≡ a
    unfolding try_rows try_with
    walking_end z = ends false 0 (λ i. try_rows N (L - depth) (empty i) (frames cs work (z i)) m)
