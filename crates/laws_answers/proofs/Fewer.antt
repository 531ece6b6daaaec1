-- More labellings open no more groups. What the walk opens is told without the groups opened before (`Sees`): all that is reached through rules
-- 3 and 4 from the children before the first that leads to the target; then that child, unless rule 2 says yes of it, and so down. The walk
-- opens exactly these. With more labellings fewer groups pass and rule 2 says yes of more, so no more is seen; the first child that leads to
-- the target is the same. So two walks need not be followed side by side.
use mathlib.Core.Bool.{Bool, true, false}
use mathlib.Core.Logic.{◌⊎◌, inl, inr}
use mathlib.Core.Path.{◌≡◌, refl, subst}
use mathlib.Core.List.{List, ◌∷◌}
use Prim.Native.Nat.{ℕ, ◌<◌}
use Rattle.lineage.specs.Walk.{Net}
use Rattle.laws.proofs.Tests.{clash, is_false}
use Rattle.laws.proofs.Lists.{here}
use Rattle.laws.specs.Leads.{Leads, step}
use Rattle.laws_answers.specs.Walks.{◌∈◌, End, Tries, over, hit, met, cut, finds, goes_on, Walks, Through, ends, goes}
use Rattle.laws_answers.proofs.Tries.{each, Lower, Judges, Low, Ready, keeps, low_children, low_tail, cut_leads_not, met_leads_not, found_leads, failed, closed_leads_not, closed_ready, ready_below, ready_first}
use Rattle.laws_answers.proofs.Through.{passes, only_through, through_opened}

-- what trying cs opens
data Sees (children : ℕ → List ℕ) (yes? no? : ℕ → Bool) (t : ℕ) : List ℕ → ℕ → Type 0 where
  near : {h g : ℕ} {cs : List ℕ} → (Leads children h t → ⊥) → Through children no? h g → Sees children yes? no? t (h ∷ cs) g
  later : {h g : ℕ} {cs : List ℕ} → (Leads children h t → ⊥) → Sees children yes? no? t cs g → Sees children yes? no? t (h ∷ cs) g
  self : {h : ℕ} {cs : List ℕ} → Leads children h t → yes? h ≡ false → Sees children yes? no? t (h ∷ cs) h
  down : {h g : ℕ} {cs : List ℕ} → Leads children h t → yes? h ≡ false → Sees children yes? no? t (children h) g → Sees children yes? no? t (h ∷ cs) g

-- past a child that does not lead to t
sees_past :
    {children : ℕ → List ℕ} {yes? no? : ℕ → Bool} {t h g : ℕ} {cs : List ℕ}
    → Sees children yes? no? t (h ∷ cs) g → (Leads children h t → ⊥) → Through children no? h g ⊎ Sees children yes? no? t cs g
sees_past (near n w) m = inl w
sees_past (later n w) m = inr w
sees_past (self l y) m = absurd (m l)
sees_past (down l y w) m = absurd (m l)

-- at the first child that does
sees_on :
    {children : ℕ → List ℕ} {yes? no? : ℕ → Bool} {t h g : ℕ} {cs : List ℕ}
    → Sees children yes? no? t (h ∷ cs) g → Leads children h t → (yes? h ≡ false) × ((g ≡ h) ⊎ Sees children yes? no? t (children h) g)
sees_on (near n w) l = absurd (n l)
sees_on (later n w) l = absurd (n l)
sees_on (self m y) l = (y, inl refl)
sees_on (down m y w) l = (y, inr w)

module _ {N : Net} {level : ℕ → ℕ} {k t : ℕ} (F : Lower N level k) (J : Judges N k t) where
  -- what trying cs opens
  abbrev SeesIn : List ℕ → ℕ → Type 0
  SeesIn cs g = Sees N.children N.yes N.no t cs g

  -- what is opened is seen
  opened_seen : {cs o o' : List ℕ} {e : End} {L : ℕ} → Low F J L cs → Ready F J L o → Tries N cs o e o' → (g : ℕ) → g ∈ o' → (g ∈ o) ⊎ SeesIn cs g
  opened_seen l a over g i = inl i
  opened_seen l a (hit y) g i = inl i
  opened_seen l a (met {h = h} {cs = cs} {o = o} y m r) g i =
      elim (opened_seen (low_tail F J h cs l) a r g i) [ inl j ↦ inl j | inr w ↦ inr (later (met_leads_not F J h o (l h (here h cs)).1 a m) w) ]
  opened_seen l a (cut {h = h} {cs = cs} y n r) g i =
      elim (opened_seen (low_tail F J h cs l) a r g i) [ inl j ↦ inl j | inr w ↦ inr (later (cut_leads_not F J h (l h (here h cs)).0 y n) w) ]
  opened_seen l a (finds {h = h} {cs = cs} {o = o} y m n r) g i =
      let b = l h (here h cs) in
      let (q, j, p) = found_leads F J (low_children F J h b.0) r in
      elim (opened_seen (low_children F J h b.0) (ready_below F J h o b.1 a) r g i) [
        | inl u ↦ each (λ q. (q ∈ o) ⊎ SeesIn (h ∷ cs) q) h o (inr (self (step j p) y)) (λ q v. inl v) g u
        | inr w ↦ inr (down (step j p) y w)
      ]
  opened_seen l a (goes_on {h = h} {cs = cs} {o = o} {o₁ = o₁} y m n r s) g i =
      let b = l h (here h cs) in
      let R = failed F J (low_children F J h b.0) (ready_below F J h o b.1 a) r in
      let leads_not = closed_leads_not F J h o o₁ y r R in
      elim (opened_seen (low_tail F J h cs l) (closed_ready F J h o o₁ y r R a) s g i) [
        | inl j ↦ elim (only_through r g j) [
          | inl u ↦ each (λ q. (q ∈ o) ⊎ SeesIn (h ∷ cs) q) h o (inr (near leads_not (ends n))) (λ q v. inl v) g u
          | inr w ↦ inr (near leads_not (goes n w.1 w.2))
        ]
        | inr w ↦ inr (later leads_not w)
      ]

  -- what is seen is opened
  seen_opened : {cs o o' : List ℕ} {e : End} {L : ℕ} → Low F J L cs → Ready F J L o → Tries N cs o e o' → (g : ℕ) → SeesIn cs g → g ∈ o'
  seen_opened {L = L} l a (over {o = o}) g v = elim v [ ]
  seen_opened l a (hit {h = h} {cs = cs} y) g v = clash y (sees_on v (J.hits h (l h (here h cs)).0 y)).0
  seen_opened l a (met {h = h} {cs = cs} {o = o} y m r) g v =
      let b = l h (here h cs) in
      elim (sees_past v (met_leads_not F J h o b.1 a m)) [
        | inl w ↦ keeps r g (through_opened F J o a b.0 b.1 m w)
        | inr w ↦ seen_opened (low_tail F J h cs l) a r g w
      ]
  seen_opened l a (cut {h = h} {cs = cs} y n r) g v =
      elim (sees_past v (cut_leads_not F J h (l h (here h cs)).0 y n)) [ inl w ↦ clash n (passes w) | inr w ↦ seen_opened (low_tail F J h cs l) a r g w ]
  seen_opened l a (finds {h = h} {cs = cs} {o = o} y m n r) g v =
      let b = l h (here h cs) in
      let (q, j, p) = found_leads F J (low_children F J h b.0) r in
      elim (sees_on v (step j p)).1 [
        | inl e ↦ rw e (keeps r h (here h o))
        | inr w ↦ seen_opened (low_children F J h b.0) (ready_below F J h o b.1 a) r g w
      ]
  seen_opened l a (goes_on {h = h} {cs = cs} {o = o} {o₁ = o₁} y m n r s) g v =
      let b = l h (here h cs) in
      let R = failed F J (low_children F J h b.0) (ready_below F J h o b.1 a) r in
      let c = closed_ready F J h o o₁ y r R a in
      elim (sees_past v (closed_leads_not F J h o o₁ y r R)) [
        | inl w ↦ keeps s g (through_opened F J o₁ c b.0 b.1 (keeps r h (here h o)) w)
        | inr w ↦ seen_opened (low_tail F J h cs l) c s g w
      ]

through_fewer : {children : ℕ → List ℕ} {no₁ no₂ : ℕ → Bool} → ((h : ℕ) → no₂ h ≡ false → no₁ h ≡ false) → {h g : ℕ} → Through children no₂ h g → Through children no₁ h g
through_fewer a (ends {g = g} n) = ends (a g n)
through_fewer a (goes {p = p} n i w) = goes (a p n) i (through_fewer a w)

-- where fewer pass and more are ended by rule 2, no more is seen
sees_fewer :
    {children : ℕ → List ℕ} {yes₁ no₁ yes₂ no₂ : ℕ → Bool} {t : ℕ}
    → ((h : ℕ) → no₂ h ≡ false → no₁ h ≡ false) → ((h : ℕ) → yes₁ h ≡ true → yes₂ h ≡ true)
    → {cs : List ℕ} {g : ℕ} → Sees children yes₂ no₂ t cs g → Sees children yes₁ no₁ t cs g
sees_fewer a y (near n w) = near n (through_fewer a w)
sees_fewer a y (later n w) = later n (sees_fewer a y w)
sees_fewer a y (self {h = h} l z) = self l (is_false _ (λ e. clash (y h e) z))
sees_fewer a y (down {h = h} l z w) = down l (is_false _ (λ e. clash (y h e) z)) (sees_fewer a y w)

-- every group that the second walk opens is opened by the first
pub opened_fewer :
    {N₁ N₂ : Net} {level : ℕ → ℕ} {k t : ℕ} → Lower N₁ level k → Lower N₂ level k → Judges N₁ k t → Judges N₂ k t
    → N₂.children ≡ N₁.children → ((h : ℕ) → N₂.no h ≡ false → N₁.no h ≡ false) → ((h : ℕ) → N₁.yes h ≡ true → N₂.yes h ≡ true)
    → {x : ℕ} {o₁ o₂ : List ℕ} {e₁ e₂ : End} → x < k → Walks N₁ x e₁ o₁ → Walks N₂ x e₂ o₂ → (g : ℕ) → g ∈ o₂ → g ∈ o₁
opened_fewer {N₁} {N₂} {t = t} F₁ F₂ J₁ J₂ same pass more {x} b w₁ w₂ g i =
    elim (opened_seen F₂ J₂ (low_children F₂ J₂ x b) (ready_first F₂ J₂ x) w₂ g i) [
      | inl j ↦ keeps w₁ g j
      | inr v ↦
          let v₁ : Sees N₁.children N₂.yes N₂.no t (N₁.children x) g = subst (λ (c : ℕ → List ℕ). Sees c N₂.yes N₂.no t (c x) g) same v in
          seen_opened F₁ J₁ (low_children F₁ J₁ x b) (ready_first F₁ J₁ x) w₁ g (sees_fewer pass more v₁)
    ]
