-- What the intervals of a sound index tell: rules 2, 3 and 4 are right. Along a path down children levels fall, e falls and s does not fall, so the
-- target's level is below the source's and its outer interval lies in the source's (rules 3 and 4). A rank in a group's inner interval is the group's
-- own, or lies in the inner interval of a child that the left walk passes; by induction on e the group leads to the place of that rank (rule 2).
use mathlib.Core.Bool.{true, false}
use mathlib.Core.Logic.{◌≢◌}
use mathlib.Core.Path.{◌≡◌, refl}
use mathlib.Core.List.{[]}
use Prim.Native.Nat.{ℕ, zero, suc, ◌-◌, ◌<◌, ◌≤◌}
use native.Mathlib.Decide.{ℕ_discrete, dec_le}
use native.Mathlib.Omega.{arith}
use lib.Dec.{leb}
use lib.ListN.{length, get_or}
use borrow.Author.Tests.{leb-true, le-leb, lt-leb}
use Rattle.lineage.specs.Labels.{Labelling}
use Rattle.lineage.specs.Index.{Index}
use Rattle.lineage.specs.Question.{inside, outside, rule2, rule3, rule4, net_of}
use Rattle.lineage.specs.Sound.{child_of}
use Rattle.laws.specs.Leads.{Down, stay, step}
use Rattle.laws.specs.Sound.{LeftWalk, arrived, left, SoundLabelling, Sound}
use Rattle.laws.proofs.Tests.{and_both, and_left, and_right}
use Rattle.laws.proofs.Positions.{least_at}
use Rattle.laws.proofs.Inverse.{e_most, e_one}
use Rattle.laws.proofs.Grouped.{child_in, levels_fall}
use Rattle.laws_answers.specs.Answers.{Member}
use Rattle.laws_answers.proofs.Members.{every_member, first_member}
use Rattle.laws_answers.proofs.Tries.{Judges}
use Rattle.laws_answers.proofs.Labellings.{some_is, is_some, none_is}

module _ (I : Index) (S : Sound I) where
  abbrev k : ℕ
  k = length I.children

  abbrev level : ℕ → ℕ
  level p = get_or I.levels p 0

  -- rule 3: the level falls along a path
  level_most : {p t : ℕ} → p < k → Down I.children p t → level t ≤ level p
  level_most b stay = omega arith
  level_most {p} b (step {q = q} i w) = omega (arith, levels_fall S.condensed p q b i, level_most (child_in S.condensed p q b i) w)

  level_above : {p t : ℕ} → p < k → Down I.children p t → p ≢ t → level t < level p
  level_above b stay n = absurd (n refl)
  level_above {p} b (step {q = q} i w) n = omega (arith, levels_fall S.condensed p q b i, level_most (child_in S.condensed p q b i) w)

  module _ (l : Labelling) (L : SoundLabelling I.children l) where
    abbrev s : ℕ → ℕ
    s p = get_or l.s p 0

    abbrev m : ℕ → ℕ
    m p = get_or l.m p 0

    abbrev e : ℕ → ℕ
    e p = get_or l.e p 0

    -- rule 4: a path needs outer containment
    pub outer_needed : {p t : ℕ} → p < k → Down I.children p t → (s p ≤ s t) × (e t ≤ e p)
    outer_needed b stay = (omega arith, omega arith)
    outer_needed {p} b (step {q = q} i w) =
        let r = outer_needed (child_in S.condensed p q b i) w in
        (omega (arith, L.outer_is p b, least_at s (e p) q (get_or I.children p []) i), omega (arith, L.falls p q b i))

    not_outside : (p t : ℕ) → p < k → Down I.children p t → outside p t l ≡ false
    not_outside p t b w = let r = outer_needed b w in rw (le-leb _ _ r.0, le-leb _ _ r.1)

    -- a child on the left walk from hi to lo holds t's rank, and leads to t where all children of ranks at most B that hold it do
    child_holds :
        (p t B : ℕ) → B ≤ k → ((h : ℕ) → h < k → e h ≤ B → m h ≤ e t → e t ≤ e h → Down I.children h t)
        → {hi lo : ℕ} → LeftWalk l (child_of I.children p) hi lo → hi ≤ B → lo < e t → e t ≤ hi → Down I.children p t
    child_holds p t B n ih arrived c low high = absurd (omega arith)
    child_holds p t B n ih (left {q = q} i w) c low high =
        let h : ℕ = get_or l.by_rank q 0 in
        let b : h < k = L.at_low q (omega arith) in
        let r : e h ≡ suc q = L.e_at q (omega arith) in
        elim (dec_le (m h) (e t)) [
          | yes d ↦ step i (ih h b (omega arith) d (omega arith))
          | no d ↦ child_holds p t B n ih w (omega (arith, L.m_high h b)) low (omega arith)
        ]

    -- rule 2: the inner interval holds what is below
    pub inner_below : (B p t : ℕ) → p < k → t < k → m p ≤ e t → e t ≤ e p → e p ≤ B → Down I.children p t
    inner_below zero p t b c low high bound = absurd (omega (arith, L.m_low p b))
    inner_below (suc B) p t b c low high bound =
        elim (ℕ_discrete (e p) (e t)) [
          | yes same ↦ rw (e_one L p t b c same) stay
          | no n ↦
              child_holds p t (e p - 1) (omega (arith, e_most L p b)) (λ h d bd lo hi. inner_below B h t d c lo hi (omega arith)) (L.blocks p b)
              (omega arith) (omega (arith, L.m_low p b)) (omega arith)
        ]

    inside_below : (p t : ℕ) → p < k → t < k → inside p t l ≡ true → Down I.children p t
    inside_below p t b c h =
        inner_below (e p) p t b c (leb-true (m p) (e t) (and_left (leb (m p) (e t)) _ h)) (leb-true (e t) (e p) (and_right (leb (m p) (e t)) _ h)) (omega arith)

    inside_self : (t : ℕ) → t < k → inside t t l ≡ true
    inside_self t c = and_both (le-leb (m t) (e t) (L.m_high t c)) (le-leb (e t) (e t) (omega arith))

  labelled : (l : Labelling) → Member l I.labels → SoundLabelling I.children l
  labelled l i = every_member (SoundLabelling I.children) S.labelled i

  -- rule 2 says yes only of groups that lead to t, and of t itself where there is a labelling at all
  rule2_right : (h t : ℕ) → h < k → t < k → rule2 I h t ≡ true → Down I.children h t
  rule2_right h t b c y = let (l, i, d) = some_is (inside h t) I.labels y in inside_below l (labelled l i) h t b c d

  rule2_self : 0 < length I.labels → (t : ℕ) → t < k → rule2 I t t ≡ true
  rule2_self some t c = let (l, i) = first_member I.labels some in is_some (inside t t) i (inside_self l (labelled l i) t c)

  -- rules 3 and 4 rule out no other group that leads to t
  rule3_right : (h t : ℕ) → h < k → Down I.children h t → h ≢ t → rule3 I h t ≡ false
  rule3_right h t b w n = lt-leb (level h) (level t) (level_above b w n)

  rule4_right : (h t : ℕ) → h < k → Down I.children h t → rule4 I h t ≡ false
  rule4_right h t b w = none_is (outside h t) I.labels (λ l i. not_outside l (labelled l i) h t b w)

  -- so the net judges rightly
  pub judged : 0 < length I.labels → (t : ℕ) → t < k → Judges (net_of I t) k t
  judged some t c = record {
    hits = λ h b y. rule2_right h t b c y;
    lets = λ h b w n. rw (rule3_right h t b w n, rule4_right h t b w);
    home = rule2_self some t c;
  }
