-- Levels. Their equation makes them fall along children, so it has one solution; the computed levels meet it wherever some number falls along
-- children, since that number bounds how deep the recursion has to look. And with the level as its bound `leads` finds every path down children.
use mathlib.Core.Bool.{true}
use mathlib.Core.Logic.{inl, inr, ◌↔◌}
use mathlib.Core.Path.{◌≡◌, refl, sym, ap, ◌∙◌}
use mathlib.Core.List.{List, [], map}
use Prim.Native.Nat.{ℕ, zero, suc, ◌<◌, ◌≤◌}
use native.Mathlib.Nat.{not-suc-le-zero}
use native.Mathlib.Omega.{arith}
use lib.Dec.{eqb}
use lib.ListN.{length, get_or}
use borrow.Author.Tests.{eqb-true, eq-eqb}
use Rattle.lineage.specs.Lists.{greatest}
use Rattle.lineage.specs.Graph.{level, levels_of, leads}
use Rattle.lineage.specs.Sound.{child_of}
use Rattle.laws.specs.Leads.{stay, step, Down}
use Rattle.laws.proofs.Tests.{or_left, or_right, or_cases}
use Rattle.laws.proofs.Lists.{map_same, any_in, in_any, table_at, table_long}
use Rattle.laws.proofs.Positions.{greatest_at, greatest_most}

-- a number for each place, by the equation of levels
abbrev pub Levels : List (List ℕ) → (ℕ → ℕ) → Type 0
Levels children a = (p : ℕ) → p < length children → a p ≡ greatest (map (λ q. suc (a q)) (get_or children p []))

-- a number falls along children
abbrev pub Falls : List (List ℕ) → (ℕ → ℕ) → Type 0
Falls children a = (p q : ℕ) → p < length children → child_of children p q ≡ true → a q < a p

module _ (children : List (List ℕ)) where
  pub level_falls : (a : ℕ → ℕ) → Levels children a → Falls children a
  level_falls a is p q h i = omega (arith, is p h, greatest_at (λ x. suc (a x)) q (get_or children p []) i)

  -- what `leads` finds is a path
  leads_down : (f p q : ℕ) → leads children f p q ≡ true → Down children p q
  unfolding leads
  leads_down zero p q h = rw (eqb-true p q h) stay
  leads_down (suc f) p q h =
      elim (or_cases (eqb p q) _ h) [
        | inl i ↦ rw (eqb-true p q i) stay
        | inr i ↦ let (x, j, l) = in_any (λ x. leads children f x q) (get_or children p []) i in step j (leads_down f x q l)
      ]

  leads_itself : (f p : ℕ) → leads children f p p ≡ true
  unfolding leads
  leads_itself zero p = eq-eqb p p refl
  leads_itself (suc f) p = or_left _ (eq-eqb p p refl)

  module _ (child_low : (p q : ℕ) → p < length children → child_of children p q ≡ true → q < length children) where
    pub level_unique : (a b : ℕ → ℕ) → Levels children a → Levels children b → (f p : ℕ) → p < length children → a p < f → a p ≡ b p
    level_unique a b is-a is_b zero p h l = absurd (not-suc-le-zero l)
    level_unique a b is-a is_b (suc f) p h l =
        is-a p h
        ∙ ap greatest (map_same (λ q. suc (a q)) (λ q. suc (b q)) (get_or children p [])
        (λ q i. ap suc (level_unique a b is-a is_b f q (child_low p q h i) (omega (arith, level_falls a is-a p q h i)))))
        ∙ sym (is_b p h)

    -- any number that falls is bound enough
    module _ (a : ℕ → ℕ) (falls : Falls children a) where
      down_leads : {p q : ℕ} → Down children p q → (f : ℕ) → p < length children → a p ≤ f → leads children f p q ≡ true
      unfolding leads
      down_leads (stay {p = p}) f h l = leads_itself f p
      down_leads (step {p = p} {q = x} {t = q} i d) zero h l = absurd (omega (arith, falls p x h i))
      down_leads (step {p = p} {q = x} {t = q} i d) (suc f) h l =
          or_right (eqb p q) (any_in (λ y. leads children f y q) x (get_or children p []) i (down_leads d f (child_low p x h i) (omega (arith, falls p x h i))))

      -- `leads` finds every path down children
      pub leads_bounded : (f p q : ℕ) → p < length children → a p ≤ f → (leads children f p q ≡ true) ↔ Down children p q
      leads_bounded f p q h l = (leads_down f p q, λ d. down_leads d f h l)

    -- the computed levels, where a number from 1 up to that of the places falls
    module _
        (a : ℕ → ℕ) (falls : Falls children a)
        (above : (p : ℕ) → p < length children → 1 ≤ a p)
        (most : (p : ℕ) → p < length children → a p ≤ length children)
      where
        level_stable : (f p : ℕ) → p < length children → a p ≤ f → level children f p ≡ level children (suc f) p
        unfolding level
        level_stable zero p h l = absurd (omega (arith, above p h))
        level_stable (suc f) p h l =
            ap greatest (map_same (λ q. suc (level children f q)) (λ q. suc (level children (suc f) q)) (get_or children p [])
            (λ q i. ap suc (level_stable f q (child_low p q h i) (omega (arith, falls p q h i)))))

        level_at : (p : ℕ) → p < length children → get_or (levels_of children) p 0 ≡ level children (length children) p
        unfolding levels_of
        level_at p h = table_at (level children (length children)) (length children) p 0 h

        -- the computed levels meet the equation
        pub levels_meet : Levels children (λ p. get_or (levels_of children) p 0)
        unfolding level
        levels_meet p h =
            level_at p h
            ∙ level_stable (length children) p h (most p h)
            ∙ ap greatest (map_same (λ q. suc (level children (length children) q)) (λ q. suc (get_or (levels_of children) q 0)) (get_or children p [])
            (λ q i. ap suc (sym (level_at q (child_low p q h i)))))

-- a level for each place
pub levels_long : (children : List (List ℕ)) → length (levels_of children) ≡ length children
unfolding levels_of
levels_long children = table_long (level children (length children)) (length children)

-- a level is not above the depth that bounds it
pub level_most : (children : List (List ℕ)) (f p : ℕ) → level children f p ≤ f
unfolding level
level_most children zero p = omega arith
level_most children (suc f) p = greatest_most (λ q. suc (level children f q)) (suc f) (get_or children p []) (λ q. omega (arith, level_most children f q))
