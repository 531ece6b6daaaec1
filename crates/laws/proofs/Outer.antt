-- s by its equation and by its bounded recursion. Ranks fall along children, so a depth of e(p) reaches all that is below p: the recursion meets
-- the equation, and whatever meets the equation is what the recursion gives.
use mathlib.Core.Bool.{true}
use mathlib.Core.Path.{◌≡◌, refl, sym, ap, ◌∙◌}
use mathlib.Core.List.{List, [], ◌∷◌, map}
use Prim.Native.Nat.{ℕ, zero, suc, ◌<◌, ◌≤◌}
use native.Mathlib.Omega.{arith}
use lib.ListN.{length, get_or}
use Rattle.lineage.specs.Lists.{least}
use Rattle.lineage.specs.Labels.{outer}
use Rattle.lineage.specs.Sound.{child_of}
use Rattle.laws.proofs.Lists.{here, map_same}

module _
    (children : List (List ℕ)) (e : List ℕ)
    (some : (p : ℕ) → p < length children → 1 ≤ get_or e p 0)
    (child_low : (p q : ℕ) → p < length children → child_of children p q ≡ true → q < length children)
    (falls : (p q : ℕ) → p < length children → child_of children p q ≡ true → get_or e q 0 < get_or e p 0)
  where
    -- the first in rank has no children
    childless : (p : ℕ) → p < length children → get_or e p 0 ≤ 1 → get_or children p [] ≡ []
    childless p h l = at (get_or children p []) refl
      where
        at : (xs : List ℕ) → get_or children p [] ≡ xs → get_or children p [] ≡ []
        at [] i = i
        at (q ∷ xs) i = let c : child_of children p q ≡ true = rw i (here q xs) in absurd (omega (arith, falls p q h c, some q (child_low p q h c)))

    -- what meets the equation is what the recursion gives
    pub outer_is :
        (s : ℕ → ℕ) → ((p : ℕ) → p < length children → s p ≡ least (get_or e p 0) (map s (get_or children p [])))
        → (f p : ℕ) → p < length children → get_or e p 0 ≤ suc f → outer children e f p ≡ s p
    unfolding outer
    outer_is s eq zero p h l = sym (eq p h ∙ ap (λ xs. least (get_or e p 0) (map s xs)) (childless p h l))
    outer_is s eq (suc f) p h l =
        ap (least (get_or e p 0)) (map_same (outer children e f) s (get_or children p [])
        (λ q i. outer_is s eq f q (child_low p q h i) (omega (arith, falls p q h i))))
        ∙ sym (eq p h)

    stable : (f p : ℕ) → p < length children → get_or e p 0 ≤ suc f → outer children e f p ≡ outer children e (suc f) p
    unfolding outer
    stable zero p h l = sym (ap (λ xs. least (get_or e p 0) (map (outer children e 0) xs)) (childless p h l))
    stable (suc f) p h l =
        ap (least (get_or e p 0)) (map_same (outer children e f) (outer children e (suc f)) (get_or children p [])
        (λ q i. stable f q (child_low p q h i) (omega (arith, falls p q h i))))

    -- what the recursion gives meets the equation
    pub outer_meets :
        (f p : ℕ) → p < length children → get_or e p 0 ≤ suc f
        → outer children e f p ≡ least (get_or e p 0) (map (outer children e f) (get_or children p []))
    unfolding outer
    outer_meets f p h l = stable f p h l
