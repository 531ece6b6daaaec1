-- The left walk over ranks, one step at a time. Each step goes left, so the bound on its steps never runs out, and the walk from where it stands
-- ends as the whole walk does.
use mathlib.Core.Bool.{Bool, true, false, ◌&&◌}
use mathlib.Core.Path.{◌≡◌, refl, sym, ap, ap₂, ◌∙◌}
use Prim.Native.Nat.{ℕ, zero, suc, ◌-◌, ◌≤◌, ◌<◌}
use native.Mathlib.Omega.{arith}
use native.Mathlib.Nat.{not-suc-le-zero}
use lib.Dec.{eqb, leb}
use lib.ListN.{get_or}
use borrow.Author.Tests.{le-leb, lt-leb}
use Rattle.lineage.specs.Labels.{Labelling}
use Rattle.lineage.specs.Sound.{walk_ends}

-- the place to the left of which the step from rank r goes on, r being from 0, has its m
abbrev left_of : Labelling → ℕ → ℕ
left_of l r = get_or l.m (get_or l.by_rank r 0) 0 - 1

-- each step goes left
pub record Left (l : Labelling) (k : ℕ) : Type 0 where
  pub goes : (r : ℕ) → r < k → left_of l r ≤ r

-- from `rank` on the walk ends as it does from `high` on
pub record Walks (l : Labelling) (test : ℕ → Bool) (k high low rank : ℕ) : Type 0 where
  pub within : rank ≤ k
  pub ends : walk_ends l test k rank low ≡ walk_ends l test k high low

module _ {l : Labelling} {k : ℕ} (G : Left l k) (test : ℕ → Bool) (low : ℕ) where
  -- any two bounds that are not below the rank give the same
  bounds : (f g rank : ℕ) → rank ≤ f → rank ≤ g → rank ≤ k → walk_ends l test f rank low ≡ walk_ends l test g rank low
  unfolding walk_ends
  bounds zero zero rank i j h = refl
  bounds zero (suc g) zero i j h = refl
  bounds zero (suc g) (suc r) i j h = absurd (not-suc-le-zero i)
  bounds (suc f) zero zero i j h = refl
  bounds (suc f) zero (suc r) i j h = absurd (not-suc-le-zero j)
  bounds (suc f) (suc g) zero i j h = refl
  bounds (suc f) (suc g) (suc r) i j h =
      at (leb (suc r) low) refl (bounds f g (left_of l r) (omega (arith, G.goes r h)) (omega (arith, G.goes r h)) (omega (arith, G.goes r h)))
    where
      at : (b : Bool) → leb (suc r) low ≡ b → walk_ends l test f (left_of l r) low ≡ walk_ends l test g (left_of l r) low → walk_ends l test (suc f) (suc r) low ≡ walk_ends l test (suc g) (suc r) low
      at true e ih = rw (e, walk_ends)
      at false e ih = rw (e, walk_ends) (ap (λ (b : Bool). test (get_or l.by_rank r 0) && b) ih)

  -- above low a step asks the test, and goes on to the left
  step : (r : ℕ) → r < k → low ≤ r → walk_ends l test k (suc r) low ≡ (test (get_or l.by_rank r 0) && walk_ends l test k (left_of l r) low)
  unfolding walk_ends
  step r h i = at k refl
    where
      at : (f : ℕ) → f ≡ k → walk_ends l test f (suc r) low ≡ (test (get_or l.by_rank r 0) && walk_ends l test f (left_of l r) low)
      at zero e = absurd (omega arith)
      at (suc f) e =
          rw (lt-leb (suc r) low (omega arith), walk_ends)
          (ap (λ (b : Bool). test (get_or l.by_rank r 0) && b)
          (bounds f (suc f) (left_of l r) (omega (arith, G.goes r h)) (omega (arith, G.goes r h)) (omega (arith, G.goes r h))))

-- at low or below, it has ended
ended : (l : Labelling) (test : ℕ → Bool) (f rank low : ℕ) → rank ≤ low → walk_ends l test f rank low ≡ eqb rank low
unfolding walk_ends
ended l test zero rank low h = refl
ended l test (suc f) zero low h = refl
ended l test (suc f) (suc r) low h = rw (le-leb (suc r) low h, walk_ends)

pub walks_none : (l : Labelling) (test : ℕ → Bool) (k high low : ℕ) → high ≤ k → Walks l test k high low high
walks_none l test k high low h = record { within = h; ends = refl }

module _ {l : Labelling} {test : ℕ → Bool} {k high low rank : ℕ} (W : Walks l test k high low rank) where
  pub walks_end : rank ≤ low → eqb rank low ≡ walk_ends l test k high low
  walks_end h = sym (ended l test k rank low h) ∙ W.ends

  module _ (G : Left l k) {q : ℕ} (above : low < rank) (place : q ≡ get_or l.by_rank (rank - 1) 0) where
    here : (test q && walk_ends l test k (get_or l.m q 0 - 1) low) ≡ walk_ends l test k high low
    here =
        let e : suc (rank - 1) ≡ rank = omega arith in
        rw place (sym (step G test low (rank - 1) (omega (arith, W.within)) (omega arith)) ∙ rw e W.ends)

    pub walks_stop : test q ≡ false → false ≡ walk_ends l test k high low
    walks_stop f = rw f at here

    module _ {m : ℕ} (its : m ≡ get_or l.m q 0) where
      pub walks_less : m - 1 < rank
      walks_less = omega (arith, G.goes (rank - 1) (omega (arith, W.within)), ap (λ (p : ℕ). get_or l.m p 0) place)

      pub walks_left : test q ≡ true → Walks l test k high low (m - 1)
      walks_left t = record { within = omega (arith, walks_less, W.within); ends = rw its (rw t at here) }

-- two tests that agree on all places
pub walk_agrees : {l : Labelling} {k : ℕ} → Left l k → ((r : ℕ) → r < k → get_or l.by_rank r 0 < k)
    → (test other : ℕ → Bool)
    → ((p : ℕ) → p < k → test p ≡ other p)
    → (low f rank : ℕ)
    → rank ≤ k
    → walk_ends l test f rank low ≡ walk_ends l other f rank low
unfolding walk_ends
walk_agrees G at_low test other same low zero rank h = refl
walk_agrees G at_low test other same low (suc f) zero h = refl
walk_agrees {l} {k} G at_low test other same low (suc f) (suc r) h =
    at (leb (suc r) low) refl (walk_agrees G at_low test other same low f (left_of l r) (omega (arith, G.goes r h)))
  where
    at : (b : Bool) → leb (suc r) low ≡ b → walk_ends l test f (left_of l r) low ≡ walk_ends l other f (left_of l r) low → walk_ends l test (suc f) (suc r) low ≡ walk_ends l other (suc f) (suc r) low
    at true e ih = rw (e, walk_ends)
    at false e ih = rw (e, walk_ends) (ap₂ ◌&&◌ (same (get_or l.by_rank r 0) (at_low r h)) ih)
