-- Where exactly the groups that reach the target are marked, the lowest marked child is the lowest child that reaches the target. So the names of the steps are the
-- chain; and from a marked group other than the target a child is marked, so the steps stay on marked groups, and their levels fall.
use mathlib.Core.Bool.{Bool, true, false}
use mathlib.Core.Logic.Iff
use mathlib.Core.Logic.{◌↔◌}
use mathlib.Core.Path.{◌≡◌, refl, sym, ap, subst, ◌∙◌}
use mathlib.Core.List.{List, [], ◌∷◌}
use Prim.Native.Nat.{ℕ, zero, suc, ◌≤◌, ◌<◌}
use native.Mathlib.Omega.{arith}
use native.Mathlib.Decide.{dec_lt}
use lib.Dec.{eqb}
use lib.ListN.{length, get_or, get_or-eq_default}
use Rattle.lineage.specs.Lists.{among, first_of}
use Rattle.lineage.specs.Graph.{level, levels_of}
use Rattle.lineage.specs.Index.{Index}
use Rattle.lineage.specs.Question.{place_in, answer}
use Rattle.laws.specs.Leads.{stay, step, Down}
use Rattle.laws.specs.Sound.{SoundGroups, Sound}
use Rattle.laws.proofs.Lists.{here, there, table_at}
use Rattle.laws.proofs.Rising.{first_of_lem}
use Rattle.laws.proofs.Levels.{level_most}
use Rattle.laws.proofs.GraphFound.{condense_made}
use Rattle.laws.proofs.Grouped.{child_in, children_rise, levels_fall, leads_exactly, place_low, name_of_place}
use Rattle.laws_answers.proofs.Demands.{answer_down}
use Rattle.laws_same.proofs.Lineage.{tests_same}
use Rattle.reach_sweep.specs.Sweep.{marked}
use Rattle.chain_steps.specs.Chain.{onward, leads_to, lowest_to, steps_by, chain_from}
use Rattle.chain_steps.specs.Steps.{Trail}
use Rattle.chain.specs.Marks.{Exact}

-- tests that agree on a row find the same first of it
first_same : (p q : ℕ → Bool) (xs : List ℕ) (other : ℕ) → ((x : ℕ) → among x xs ≡ true → p x ≡ q x) → first_of p xs other ≡ first_of q xs other
first_same p q [] other same = refl
first_same p q (x ∷ xs) other same = at (q x) refl (first_same p q xs other (λ y i. same y (there y x xs i)))
  where
    at : (b : Bool) → q x ≡ b → first_of p xs other ≡ first_of q xs other → first_of p (x ∷ xs) other ≡ first_of q (x ∷ xs) other
    at true e ih = rw (e, same x (here x xs) ∙ e, first_of) refl
    at false e ih = rw (e, same x (here x xs) ∙ e, first_of) ih

-- steps by the same next places are the same
steps_same : (names : List ℕ) (next next' : ℕ → ℕ) (t : ℕ) → ((p : ℕ) → next p ≡ next' p) → (f p : ℕ) → steps_by names next t f p ≡ steps_by names next' t f p
unfolding steps_by
steps_same names next next' t same zero p = refl
steps_same names next next' t same (suc f) p = ap (λ xs. get_or names p 0 ∷ xs) (on (eqb p t) (steps_same names next next' t same f (next p)))
  where
    on : (b : Bool) → steps_by names next t f (next p) ≡ steps_by names next' t f (next p) → onward b (steps_by names next t f) (next p) ≡ onward b (steps_by names next' t f) (next' p)
    on true ih = refl
    on false ih = ih ∙ ap (steps_by names next' t f) (same p)

module _
    {I : Index} (S : SoundGroups I.names I.groups I.levels I.children)
    {t : ℕ} {marks : List ℕ} (E : Exact I t marks) {k : ℕ} (long : length I.children ≡ k)
  where
    abbrev row : ℕ → List ℕ
    row p = get_or I.children p []

    abbrev next : ℕ → ℕ
    next p = first_of (marked I.groups marks) (row p) k

    -- marked are those that `leads` finds
    marked_leads : (q : ℕ) → q < length I.children → marked I.groups marks q ≡ leads_to I t q
    unfolding leads_to
    marked_leads q h = tests_same _ _ (Iff.trans (E.exactly q h) (Iff.symm (leads_exactly S q t h)))

    next_lowest : (p : ℕ) → next p ≡ lowest_to I t p
    unfolding lowest_to
    next_lowest p = at (dec_lt p (length I.children))
      where
        at : Dec (p < length I.children) → next p ≡ first_of (leads_to I t) (row p) (length I.children)
        at (yes h) = first_same (marked I.groups marks) (leads_to I t) (row p) k (λ q i. marked_leads q (child_in S p q h i)) ∙ ap (first_of (leads_to I t) (row p)) (sym long)
        at (no h) = rw (get_or-eq_default I.children [] {n = p} (omega arith)) (sym long)

    -- the names of the steps are the chain
    pub steps_chain : (f p : ℕ) → steps_by I.groups next t f p ≡ chain_from I t f p
    unfolding chain_from
    steps_chain = steps_same I.groups next (lowest_to I t) t next_lowest

    -- a marked group other than the target has a marked child
    next_on :
        (p : ℕ) → p < length I.children → marked I.groups marks p ≡ true → (p ≡ t → ⊥)
        → (marked I.groups marks (next p) ≡ true) × (among (next p) (row p) ≡ true)
    next_on p h m apart = at p h apart ((E.exactly p h).0 m)
      where
        at :
            (p : ℕ) → p < length I.children → (p ≡ t → ⊥) → Down I.children p t
            → (marked I.groups marks (next p) ≡ true) × (among (next p) (row p) ≡ true)
        at p h apart stay = absurd (apart refl)
        at p h apart (step {q = q} i d) =
            let f = first_of_lem (marked I.groups marks) (row p) k q (children_rise S p h) i ((E.exactly q (child_in S p q h i)).1 d) in (f.0, f.1)

    -- the steps from a marked group
    pub trail : (x : ℕ) → x < length I.children → marked I.groups marks x ≡ true → Trail k (marked I.groups marks) next t x (get_or I.levels x 0)
    trail x h m = record {
      low = omega arith;
      here = m;
      height = λ p. get_or I.levels p 0;
      within = omega arith;
      on = λ p low good apart.
          let l : p < length I.children = omega arith in
          let (g, i) = next_on p l good apart in
          (omega (arith, child_in S p (next p) l i), (g, levels_fall S p (next p) l i));
    }

-- no level is above the number of groups
pub level_low :
    {names groups levels : List ℕ} {children : List (List ℕ)} → SoundGroups names groups levels children → (p : ℕ) → p < length children
    → get_or levels p 0 ≤ length children
unfolding levels_of
level_low {children = children} S p h =
    omega (
      arith,
      ap (λ (s : List ℕ). get_or s p 0) (condense_made S).1,
      table_at (level children (length children)) (length children) p 0 h,
      level_most children (length children) p,
    )

-- the source's group is marked exactly where a question says yes
pub marked_says :
    {I : Index} (S : Sound I) → 0 < length I.labels → {u v : ℕ} → u < length I.names → v < length I.names → {marks : List ℕ} → Exact I (place_in I v) marks
    → eqb (get_or marks (get_or I.names u 0) 0) 1 ≡ (answer I u v).says
marked_says {I} S some {u} {v} hu hv {marks} E =
    tests_same _ _
    (Iff.trans
    (subst (λ (name : ℕ). (eqb (get_or marks name 0) 1 ≡ true) ↔ Down I.children (place_in I u) (place_in I v)) (name_of_place S.condensed u hu)
    (E.exactly (place_in I u) (place_low S.condensed u hu))) (Iff.symm (answer_down I S some u v hu hv)))
