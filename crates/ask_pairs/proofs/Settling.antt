-- Marks settled one by one: those below i are 1 or 0 by whether they bore the stamp, and from i on all are as they were.
use mathlib.Core.Bool.{cond}
use mathlib.Core.Path.{◌≡◌, refl, sym, ap, ◌∙◌}
use mathlib.Core.List.{List}
use Prim.Native.Nat.{ℕ, ◌+◌, ◌≤◌, ◌<◌}
use native.Mathlib.Decide.{ℕ_discrete}
use native.Mathlib.Omega.{arith}
use lib.Dec.{eqb}
use lib.ListN.{length, get_or, set, length-set}
use lib.Seq.{get_or-set_same, get_or-set_other, ext_get_or}
use Rattle.ask_walk.specs.Stamps.{seen_as}
use Rattle.ask_walk.proofs.Stamped.{seen_long, seen_at}

pub record Settled (s : ℕ) (m₀ m : List ℕ) (i : ℕ) : Type 0 where
  pub long : length m ≡ length m₀
  pub done : (j : ℕ) → j < i → get_or m j 0 ≡ cond (eqb (get_or m₀ j 0) s) 1 0
  pub left : (j : ℕ) → i ≤ j → get_or m j 0 ≡ get_or m₀ j 0

pub settled_none : (s : ℕ) (m : List ℕ) → Settled s m m 0
settled_none s m = record { long = refl; done = λ j l. absurd (omega arith); left = λ j l. refl }

module _ {s : ℕ} {m₀ m : List ℕ} {i : ℕ} (S : Settled s m₀ m i) where
  pub settled_all : length m ≤ i → m ≡ seen_as s m₀
  settled_all h =
      ext_get_or 0 m (seen_as s m₀) (S.long ∙ sym (seen_long s m₀)) (λ j l. S.done j (omega arith) ∙ sym (seen_at s m₀ j (omega (arith, l, S.long))))
