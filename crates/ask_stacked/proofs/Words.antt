-- The words that a call is lent beside bytes of a form suffice for the stack.
use mathlib.Core.Bool.{Bool, true, false, cond}
use Prim.Native.Nat.{ℕ, ◌+◌, ◌*◌, ◌≤◌}
use native.Mathlib.Omega.{arith}
use lib.Dec.{eqb}
use Rattle.lineage.specs.Stored.{Counts}
use Rattle.lineage.specs.Calls.{words_for}
use Rattle.ask_stacked.specs.Words.{stack_words}

pub stack_needed : (w : ℕ) (a : Counts) → stack_words w a.n ≤ words_for w a
stack_needed w a = at (eqb w 2)
  where
    at : (t : Bool) → cond t 0 (2 * a.n) ≤ cond t 0 (16 * a.n + 4 * a.c + 64)
    at true = omega arith
    at false = omega arith
