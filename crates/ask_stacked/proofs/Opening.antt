-- A group entered: its mark was not set, so the marks gain one; and its row is its children, all of lower levels.
use mathlib.Core.Bool.{false}
use mathlib.Core.Path.{◌≡◌, refl, sym, ◌∙◌}
use mathlib.Core.List.{List}
use Prim.Native.Nat.{ℕ, suc, ◌+◌, ◌*◌, ◌^◌, ◌≤◌, ◌<◌}
use native.Mathlib.Omega.{arith}
use native.Mathlib.Nat.{sub-zero}
use native.Mathlib.Numerals.{add-one}
use lib.Dec.{eqb}
use lib.ListN.{length, get_or, length-set}
use Rattle.lineage.specs.Lists.{ones}
use Rattle.lineage.specs.Numbers.{Width, num_at}
use Rattle.lineage.specs.Walk.{Net, open_at}
use Rattle.laws.proofs.Positions.{ones_set}
use Rattle.numbers.proofs.Numbers.{room}
use Rattle.numbers.proofs.Regions.{kept_same}
use Rattle.stored.proofs.Sections.{row_is}
use Rattle.ask_walk.specs.Fit.{count, all, net_in, Fit, Safe}
use Rattle.ask_walk.specs.Stamps.{Under}
use Rattle.ask_walk.proofs.Nets.{net_spot, net_children, net_marked}
use Rattle.ask_stacked.specs.declared.Row.{Row}
use Rattle.ask_stacked.specs.Entered.{Entered}
use Rattle.ask_stacked.proofs.Stack.{try_rows, rest}
use Rattle.ask_stacked.proofs.Walking.{Left, Walking, opening}

pub enter_asks :
    {w k d t : ℕ} {groups levels starts children labels : List ℕ} {n : ℕ} → Fit w k d t groups levels starts children labels n → (h : ℕ) → h < k
    → (m : List ℕ) → length m ≡ n → {s : ℕ} → Under s m
    → Width w × (((w * h + w ≤ length groups) × (num_at w groups h < length m)) × (((h < 2 ^ 32) × (w * (h + 1) + w ≤ length starts)) × Under s m))
enter_asks F h low m long U = (
  F.labelled.width,
  (
    (room _ h _ _ low F.groups_long, omega (arith, F.name_low h low)),
    ((omega (arith, F.labelled.groups_few), room _ (h + 1) _ _ (omega arith) F.starts_long), U),
  ),
)

module _ {w k d t : ℕ} {groups levels starts children labels : List ℕ} {n : ℕ} (F : Fit w k d t groups levels starts children labels n) {h : ℕ} (low : h < k)
    {m m' : List ℕ} {row : Row} (E : Entered w groups starts h m m' row) where
  abbrev N : Net
  N = net_in w k d t groups levels starts children labels

  -- its row
  pub row_children : rest (all w children) row ≡ N.children h
  row_children = rw (E.from, E.to) (sym (row_is w starts children k (count w children) h low) ∙ net_children F h)

  pub row_left : (L depth : ℕ) → num_at w levels h + depth ≤ L → Left w k levels children L depth row
  row_left L depth b = record {
    end_low = rw E.to (F.end_low h low);
    small = E.small;
    low = λ i l u.
        (F.child_low h i low (omega (arith, E.from)) (omega (arith, E.to)), omega (arith, F.level_falls h i low (omega (arith, E.from)) (omega (arith, E.to))));
  }

  -- its mark
  module _ (long : length m ≡ n) (free : eqb (get_or m (num_at w groups h) 0) 1 ≡ false) (missed : N.yes h ≡ false) (S : Safe N k m) where
    pub marked_long : length m' ≡ n
    marked_long = rw E.marked (length-set m (num_at w groups h) 1 ∙ long)

    pub marked_safe : Safe N k m'
    marked_safe = rw E.marked (net_marked F h (num_at w groups h) m low refl missed S)

    pub marked_gain : ones m' ≡ suc (ones m)
    marked_gain = rw E.marked (ones_set m (num_at w groups h) (omega (arith, F.name_low h low)) free)

    -- it is the first: no child is tried yet
    pub walking_first :
        {work₀ : List ℕ} → Walking w k d t groups levels starts children labels n (num_at w levels h) (opening N (num_at w levels h) h m') work₀ m' work₀ row 0 1
    unfolding try_rows
    walking_first {work₀} = record {
      kept = kept_same work₀ 0 (2 * n);
      long = marked_long;
      safe = marked_safe;
      gain = omega (arith, marked_gain);
      deep = omega arith;
      high = omega arith;
      top = row_left (num_at w levels h) 0 (omega arith);
      under = λ j l. absurd (omega arith);
      left = rw (sub-zero, row_children) refl;
    }

  pub opening_is : (L : ℕ) → opening N L h m' ≡ open_at N (L + 1) h m
  unfolding open_at
  opening_is L = rw (E.marked, net_spot F h low, add-one L) refl
