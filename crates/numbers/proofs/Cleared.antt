-- Lent memory whose first elements are set to 0.
use mathlib.Core.Path.{◌≡◌, refl, sym, ap, ap₂, ◌∙◌}
use mathlib.Core.List.{List, ◌++◌}
use Prim.Native.Nat.{ℕ, ◌≤◌, ◌<◌}
use native.Mathlib.Omega.{arith}
use lib.ListN.{length, get_or, take, drop, take-append-drop, replicate, length-append, length-drop, length-replicate, get_or-replicate, get_or-append}
use lib.Seq.{take_at, drop_at, take_all, length-take-le}
use Rattle.lineage.specs.Lists.{part, cleared}
use Rattle.numbers.specs.Regions.{Kept}

-- what `fill` leaves of the first n elements, with those behind them
pub cleared_front_filled : (n : ℕ) (s : List ℕ) {zeros : List ℕ} → n ≤ length s → zeros ≡ replicate (length (take n s)) 0 → zeros ++ drop n s ≡ cleared n s
unfolding cleared
cleared_front_filled n s h e = rw (e, length-take-le n s h) refl

-- as many as before, 0 below n, and from n on as they were; to clear twice is to clear once
module _ (n : ℕ) (s : List ℕ) where
  pub cleared_long : n ≤ length s → length (cleared n s) ≡ length s
  unfolding cleared
  cleared_long h = omega (arith, length-append (replicate n 0) (drop n s), length-replicate {A = ℕ} n 0, length-drop n s)

  pub cleared_at : (i : ℕ) → i < n → get_or (cleared n s) i 0 ≡ 0
  unfolding cleared
  cleared_at i h = get_or-append (replicate n 0) (drop n s) 0 i (omega (arith, length-replicate {A = ℕ} n 0)) ∙ get_or-replicate n i 0 0 h

  pub cleared_front : {t : List ℕ} → t ≡ cleared n s → take n t ≡ replicate n 0
  unfolding cleared
  cleared_front e = rw e (take_at (replicate n 0) (drop n s) n (length-replicate n 0))

  pub cleared_past : drop n (cleared n s) ≡ drop n s
  unfolding cleared
  cleared_past = drop_at (replicate n 0) (drop n s) n (length-replicate n 0)

  pub cleared_twice : cleared n (cleared n s) ≡ cleared n s
  unfolding cleared
  cleared_twice = ap (replicate n 0 ++◌) cleared_past

  pub cleared_again : {t : List ℕ} → t ≡ cleared n s → t ≡ cleared n t
  cleared_again e = e ∙ sym cleared_twice ∙ ap (cleared n) (sym e)

-- no word past the first n is touched: those past them are what they were, and with the first n at 0 all are
module _ {s t : List ℕ} (n : ℕ) (K : Kept s t 0 n) where
  past_kept : drop n t ≡ drop n s
  unfolding part
  past_kept =
      sym (take_all (length s) (drop n t) (omega (arith, length-drop n t, K.long)))
      ∙ K.above n (length s) (omega arith)
      ∙ take_all (length s) (drop n s) (omega (arith, length-drop n s))

  pub cleared_kept : cleared n t ≡ cleared n s
  unfolding cleared
  cleared_kept = ap (replicate n 0 ++◌) past_kept

  pub cleared_first : part t 0 n ≡ replicate n 0 → t ≡ cleared n s
  unfolding part cleared
  cleared_first zeros = sym (take-append-drop n t) ∙ ap₂ ◌++◌ zeros past_kept
