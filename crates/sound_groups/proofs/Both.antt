-- Two tests of all numbers below n, made together or one after the other.
use mathlib.Core.Bool.{Bool, true, false, ◌&&◌}
use mathlib.Core.Path.{◌≡◌, refl, ap, ◌∙◌}
use Prim.Native.Nat.{ℕ, zero, suc}
use Rattle.lineage.specs.Lists.{all_below}

-- the two inner ones of four change places
exchange : (a b x y : Bool) → ((a && b) && (x && y)) ≡ ((a && x) && (b && y))
exchange false b x y = refl
exchange true true x y = refl
exchange true false true y = refl
exchange true false false y = refl

pub both_below : (n : ℕ) (p q : ℕ → Bool) → all_below n (λ i. p i && q i) ≡ (all_below n p && all_below n q)
both_below zero p q = refl
both_below (suc n) p q = ap (λ (b : Bool). b && (p n && q n)) (both_below n p q) ∙ exchange (all_below n p) (all_below n q) (p n) (q n)
