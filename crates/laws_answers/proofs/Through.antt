-- Which groups the walk opens: only such as are reached through rules 3 and 4, since no other child is ever opened; and on a no all of these,
-- since every group opened is then done with, and so has its children that pass opened too.
use mathlib.Core.Bool.{Bool, false, false≢true}
use mathlib.Core.Logic.{◌⊎◌, inl, inr, ◌↔◌}
use mathlib.Core.Path.{◌≡◌}
use mathlib.Core.List.{List, [], ◌∷◌}
use Prim.Native.Nat.{ℕ, suc, ◌<◌}
use native.Mathlib.Omega.{arith}
use Rattle.lineage.specs.Walk.{Net}
use Rattle.laws.proofs.Lists.{here, there}
use Rattle.laws_answers.specs.Walks.{◌∈◌, End, nowhere, Tries, over, hit, met, cut, finds, goes_on, Walks, Through, ends, goes}
use Rattle.laws_answers.proofs.Tries.{each, Lower, Judges, Ready, keeps, closed_ready, walk_failed}

-- the group where such a way starts passes
pub passes : {children : ℕ → List ℕ} {no? : ℕ → Bool} {h g : ℕ} → Through children no? h g → no? h ≡ false
passes (ends n) = n
passes (goes n j w) = n

-- opened before, or reached through the rules from one of cs
abbrev pub Reached : Net → List ℕ → List ℕ → ℕ → Type 0
Reached N cs o g = (g ∈ o) ⊎ ((h : ℕ) × (h ∈ cs) × Through N.children N.no h g)

module _ (N : Net) (h : ℕ) (cs o : List ℕ) where
  reached_later : (g : ℕ) → Reached N cs o g → Reached N (h ∷ cs) o g
  reached_later g (inl i) = inl i
  reached_later g (inr a) = inr (a.0, there a.0 h cs a.1, a.2)

  reached_below : (g : ℕ) → N.no h ≡ false → Reached N (N.children h) (h ∷ o) g → Reached N (h ∷ cs) o g
  reached_below g n (inl i) = each (Reached N (h ∷ cs) o) h o (inr (h, here h cs, ends n)) (λ q j. inl j) g i
  reached_below g n (inr a) = inr (h, here h cs, goes n a.1 a.2)

-- what is opened is reached through the rules
pub only_through : {N : Net} {cs o o' : List ℕ} {e : End} → Tries N cs o e o' → (g : ℕ) → g ∈ o' → Reached N cs o g
only_through over g i = inl i
only_through (hit y) g i = inl i
only_through {N} (met {h = h} {cs = cs} {o = o} y m r) g i = reached_later N h cs o g (only_through r g i)
only_through {N} (cut {h = h} {cs = cs} {o = o} y n r) g i = reached_later N h cs o g (only_through r g i)
only_through {N} (finds {h = h} {cs = cs} {o = o} y m n r) g i = reached_below N h cs o g n (only_through r g i)
only_through {N} (goes_on {h = h} {cs = cs} {o = o} y m n r s) g i =
    elim (only_through s g i) [ inl j ↦ reached_below N h cs o g n (only_through r g j) | inr a ↦ reached_later N h cs o g (inr a) ]

module _ {N : Net} {level : ℕ → ℕ} {k t : ℕ} (F : Lower N level k) (J : Judges N k t) where
  -- from an opened group that is not on the way down, all that is reached through the rules is opened
  pub through_opened : {L h g : ℕ} (o : List ℕ) → Ready F J L o → h < k → level h < L → h ∈ o → Through N.children N.no h g → g ∈ o
  through_opened o a b c i (ends n) = i
  through_opened {h = h} o a b c i (goes {q = q} n j w) =
      elim (a h i) [
        | inl d ↦ absurd (omega arith)
        | inr d ↦ through_opened o a (F.within h q b j) (omega (arith, F.falls h q b j)) (d.shut q j (passes w)) w
      ]

  -- on a no the walk from x opens what is reached from x through the rules, and nothing else
  module _ {x : ℕ} {o : List ℕ} (b : x < k) (y : N.yes x ≡ false) (n : N.no x ≡ false) (w : Walks N x nowhere o) where
    walk_only : (g : ℕ) → g ∈ o → Through N.children N.no x g
    walk_only g i =
        elim (only_through w g i) [
          | inl j ↦ each (Through N.children N.no x) x [] (ends n) (λ q u. absurd (false≢true u)) g j
          | inr a ↦ goes n a.1 a.2
        ]

    walk_all : (g : ℕ) → Through N.children N.no x g → g ∈ o
    walk_all g v =
        let done : Ready F J (suc (level x)) o = closed_ready F J x [] o y w (walk_failed F J b w) (λ q i. absurd (false≢true i)) in
        through_opened o done b (omega arith) (keeps w x (here x [])) v

    -- the two together
    pub opened_through : (g : ℕ) → (g ∈ o) ↔ Through N.children N.no x g
    opened_through g = (walk_only g, walk_all g)
