-- A yes of the walk is right, and so is a no. A yes: rule 2 ends the walk only at a group that leads to the target t. A no: where trying ends
-- nowhere, each group opened meanwhile is done with, that is, it does not lead to t and its children that pass rules 3 and 4 are opened; for a
-- child that is met again was done with before, a child that is ruled out does not lead to t, and any other was opened and its children tried.
use mathlib.Core.Bool.{true, false, false≢true}
use mathlib.Core.Logic.{◌⊎◌, inl, inr, ◌≢◌}
use mathlib.Core.Path.{◌≡◌, refl}
use mathlib.Core.List.{List, [], ◌∷◌}
use Prim.Native.Nat.{ℕ, ◌<◌, ◌≤◌}
use native.Mathlib.Omega.{arith}
use lib.Dec.{eqb}
use borrow.Author.Tests.{eqb-true}
use Rattle.lineage.specs.Walk.{Net}
use Rattle.laws.proofs.Tests.{or_cases, clash}
use Rattle.laws.proofs.Lists.{here, there}
use Rattle.laws.specs.Leads.{Leads, stay, step}
use Rattle.laws_answers.specs.Walks.{◌∈◌, End, nowhere, yes_at, Tries, over, hit, met, cut, finds, goes_on, Walks}

-- what holds of the head and of each in the tail holds of each in the list
pub each : (P : ℕ → Type 0) (h : ℕ) (o : List ℕ) → P h → ((g : ℕ) → g ∈ o → P g) → (g : ℕ) → g ∈ h ∷ o → P g
each P h o a b g i = elim (or_cases (eqb g h) _ i) [ inl e ↦ rw (eqb-true g h e) a | inr j ↦ b g j ]

-- children are groups of lower levels
pub record Lower (N : Net) (level : ℕ → ℕ) (k : ℕ) : Type 0 where
  pub within : (p q : ℕ) → p < k → q ∈ N.children p → q < k
  pub falls : (p q : ℕ) → p < k → q ∈ N.children p → level q < level p

-- rule 2 says yes only of groups that lead to t, and of t itself; what leads to t passes rules 3 and 4
pub record Judges (N : Net) (k t : ℕ) : Type 0 where
  pub hits : (h : ℕ) → h < k → N.yes h ≡ true → Leads N.children h t
  pub lets : (h : ℕ) → h < k → Leads N.children h t → h ≢ t → N.no h ≡ false
  pub home : N.yes t ≡ true

-- a group done with does not lead to t, and its children that pass are opened
pub record Done (N : Net) (t : ℕ) (o : List ℕ) (g : ℕ) : Type 0 where
  pub leads_not : Leads N.children g t → ⊥
  pub shut : (c : ℕ) → c ∈ N.children g → N.no c ≡ false → c ∈ o

-- what it means that trying cs ends nowhere
pub record Failed (N : Net) (t : ℕ) (cs o o' : List ℕ) : Type 0 where
  pub leads_not : (h : ℕ) → h ∈ cs → Leads N.children h t → ⊥
  pub opens : (h : ℕ) → h ∈ cs → N.no h ≡ false → h ∈ o'
  pub fresh : (g : ℕ) → g ∈ o' → (g ∈ o) ⊎ Done N t o' g

leads_cases : {next : ℕ → List ℕ} {p t : ℕ} → Leads next p t → (p ≡ t) ⊎ ((q : ℕ) × (q ∈ next p) × Leads next q t)
leads_cases stay = inl refl
leads_cases (step {q = q} i l) = inr (q, i, l)

-- an opened group stays opened
pub keeps : {N : Net} {cs o o' : List ℕ} {e : End} → Tries N cs o e o' → (g : ℕ) → g ∈ o → g ∈ o'
keeps over g i = i
keeps (hit y) g i = i
keeps (met y m r) g i = keeps r g i
keeps (cut y n r) g i = keeps r g i
keeps (finds {h = h} {o = o} y m n r) g i = keeps r g (there g h o i)
keeps (goes_on {h = h} {o = o} y m n r s) g i = keeps s g (keeps r g (there g h o i))

-- the child that ends the walk is one of which rule 2 says yes
pub ends_yes : {N : Net} {cs o o' : List ℕ} {h : ℕ} → Tries N cs o (yes_at h) o' → N.yes h ≡ true
ends_yes (hit y) = y
ends_yes (met y m r) = ends_yes r
ends_yes (cut y n r) = ends_yes r
ends_yes (finds y m n r) = ends_yes r
ends_yes (goes_on y m n r s) = ends_yes s

module _ {N : Net} {level : ℕ → ℕ} {k t : ℕ} (F : Lower N level k) (J : Judges N k t) where
  -- groups of levels below L
  abbrev pub Low : ℕ → List ℕ → Type 0
  Low L cs = (h : ℕ) → h ∈ cs → (h < k) × (level h < L)

  -- each opened group is on the way down to the children being tried, or done with
  abbrev pub Ready : ℕ → List ℕ → Type 0
  Ready L o = (g : ℕ) → g ∈ o → (L ≤ level g) ⊎ Done N t o g

  -- the children of a group, and the rest of a list
  pub low_children : (h : ℕ) → h < k → Low (level h) (N.children h)
  low_children h b q i = (F.within h q b i, F.falls h q b i)

  pub low_tail : {L : ℕ} (h : ℕ) (cs : List ℕ) → Low L (h ∷ cs) → Low L cs
  low_tail h cs l q i = l q (there q h cs i)

  not_t : (h : ℕ) → N.yes h ≡ false → h ≢ t
  not_t h y e = clash J.home (rw e at y)

  -- a group ruled out does not lead to t
  pub cut_leads_not : (h : ℕ) → h < k → N.yes h ≡ false → N.no h ≡ true → Leads N.children h t → ⊥
  cut_leads_not h b y n l = clash n (J.lets h b l (not_t h y))

  -- where trying ends at a child, one of those tried leads to t
  pub found_leads : {cs o o' : List ℕ} {g L : ℕ} → Low L cs → Tries N cs o (yes_at g) o' → (h : ℕ) × (h ∈ cs) × Leads N.children h t
  found_leads l (hit {h = h} {cs = cs} y) = (h, here h cs, J.hits h (l h (here h cs)).0 y)
  found_leads l (met {h = h} {cs = cs} y m r) = let (q, i, p) = found_leads (low_tail h cs l) r in (q, there q h cs i, p)
  found_leads l (cut {h = h} {cs = cs} y n r) = let (q, i, p) = found_leads (low_tail h cs l) r in (q, there q h cs i, p)
  found_leads l (finds {h = h} {cs = cs} y m n r) = let (q, i, p) = found_leads (low_children h (l h (here h cs)).0) r in (h, here h cs, step i p)
  found_leads l (goes_on {h = h} {cs = cs} y m n r s) = let (q, i, p) = found_leads (low_tail h cs l) s in (q, there q h cs i, p)

  -- what is done with stays so
  grown : {o o' : List ℕ} {g : ℕ} → ((q : ℕ) → q ∈ o → q ∈ o') → Done N t o g → Done N t o' g
  grown up d = record { leads_not = d.leads_not; shut = λ c i n. up c (d.shut c i n) }

  -- h has been opened in vain: it is done with, and so is all that was opened under it
  module _ (h : ℕ) (o o₁ : List ℕ) (y : N.yes h ≡ false) (r : Tries N (N.children h) (h ∷ o) nowhere o₁) (R : Failed N t (N.children h) (h ∷ o) o₁) where
    -- it does not lead to t
    pub closed_leads_not : Leads N.children h t → ⊥
    closed_leads_not l = elim (leads_cases l) [ inl e ↦ not_t h y e | inr s ↦ R.leads_not s.0 s.1 s.2 ]

    closed_fresh : (g : ℕ) → g ∈ o₁ → (g ∈ o) ⊎ Done N t o₁ g
    closed_fresh g i =
        elim (R.fresh g i) [
          | inl j ↦ each (λ q. (q ∈ o) ⊎ Done N t o₁ q) h o (inr (record { leads_not = closed_leads_not; shut = R.opens })) (λ q a. inl a) g j
          | inr d ↦ inr d
        ]

    -- and each opened group is on the way down, or done with, as before
    pub closed_ready : {L : ℕ} → Ready L o → Ready L o₁
    closed_ready a g i =
        elim (closed_fresh g i) [
          | inl j ↦ elim (a g j) [ inl b ↦ inl b | inr d ↦ inr (grown (λ q u. keeps r q (there q h o u)) d) ]
          | inr d ↦ inr d
        ]

  -- opening h, whose level is below the bound, puts it on the way down
  pub ready_below : {L : ℕ} (h : ℕ) (o : List ℕ) → level h < L → Ready L o → Ready (level h) (h ∷ o)
  ready_below h o b a =
      each (λ q. (level h ≤ level q) ⊎ Done N t (h ∷ o) q) h o (inl (omega arith))
      (λ q i. elim (a q i) [ inl c ↦ inl (omega arith) | inr d ↦ inr (grown (λ p u. there p h o u) d) ])

  -- a child that is met again does not lead to t
  pub met_leads_not : {L : ℕ} (h : ℕ) (o : List ℕ) → level h < L → Ready L o → h ∈ o → Leads N.children h t → ⊥
  met_leads_not h o b a m l = elim (a h m) [ inl c ↦ omega arith | inr d ↦ d.leads_not l ]

  -- where trying ends nowhere, no child leads to t, and what was opened is done with
  pub failed : {cs o o' : List ℕ} {L : ℕ} → Low L cs → Ready L o → Tries N cs o nowhere o' → Failed N t cs o o'
  failed l a over = record { leads_not = λ h i. absurd (false≢true i); opens = λ h i. absurd (false≢true i); fresh = λ g i. inl i }
  failed l a (met {h = h} {cs = cs} {o = o} y m r) =
      let R = failed (low_tail h cs l) a r in
      record {
        leads_not = each (λ q. Leads N.children q t → ⊥) h cs (met_leads_not h o (l h (here h cs)).1 a m) R.leads_not;
        opens = each _ h cs (λ n. keeps r h m) R.opens;
        fresh = R.fresh;
      }
  failed l a (cut {h = h} {cs = cs} y n r) =
      let R = failed (low_tail h cs l) a r in
      record {
        leads_not = each (λ q. Leads N.children q t → ⊥) h cs (cut_leads_not h (l h (here h cs)).0 y n) R.leads_not;
        opens = each _ h cs (λ p. clash n p) R.opens;
        fresh = R.fresh;
      }
  failed l a (goes_on {h = h} {cs = cs} {o = o} {o₁ = o₁} y m n r s) =
      let b = l h (here h cs) in
      let R = failed (low_children h b.0) (ready_below h o b.1 a) r in
      let S = failed (low_tail h cs l) (closed_ready h o o₁ y r R a) s in
      record {
        leads_not = each (λ q. Leads N.children q t → ⊥) h cs (closed_leads_not h o o₁ y r R) S.leads_not;
        opens = each _ h cs (λ p. keeps s h (keeps r h (here h o))) S.opens;
        fresh = λ g i. elim (S.fresh g i) [
          | inl j ↦ elim (closed_fresh h o o₁ y r R g j) [ inl u ↦ inl u | inr d ↦ inr (grown (keeps s) d) ]
          | inr d ↦ inr d
        ];
      }

  -- the walk from x starts with x alone on the way down
  pub ready_first : (x : ℕ) → Ready (level x) (x ∷ [])
  ready_first x = each (λ q. (level x ≤ level q) ⊎ Done N t (x ∷ []) q) x [] (inl (omega arith)) (λ q i. absurd (false≢true i))

  -- a walk that ends at a child is right
  pub walk_yes : {x g : ℕ} {o : List ℕ} → x < k → Walks N x (yes_at g) o → Leads N.children x t
  walk_yes {x} b w = let (q, i, p) = found_leads (low_children x b) w in step i p

  -- a walk that ends nowhere has tried in vain
  pub walk_failed : {x : ℕ} {o : List ℕ} → x < k → Walks N x nowhere o → Failed N t (N.children x) (x ∷ []) o
  walk_failed {x} b w = failed (low_children x b) (ready_first x) w

  -- and is right
  pub walk_no : {x : ℕ} {o : List ℕ} → x < k → N.yes x ≡ false → Walks N x nowhere o → Leads N.children x t → ⊥
  walk_no {x} {o} b y w = closed_leads_not x [] o y w (walk_failed b w)
