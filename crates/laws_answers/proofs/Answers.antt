-- Answers over a sound index. Rule 2 says yes only of a group that leads to the target, rules 3 and 4 rule out only groups that do not, and the walk
-- finds the target exactly where one of x's children leads to it: so an answer is yes exactly where a path down children leads from x to t.
-- Its count and its marks are those of the groups that the walk opens, its deciding number that of the first labelling whose test held.
use mathlib.Core.Bool.{true, false, false≢true, true≢false}
use mathlib.Core.Logic.{◌↔◌}
use mathlib.Core.Path.{◌≡◌, refl, ◌∙◌}
use mathlib.Core.List.{List, [], ◌∷◌}
use Prim.Native.Nat.{ℕ, ◌<◌}
use native.Mathlib.Omega.{arith}
use lib.ListN.{length, get_or, get_or-replicate}
use Rattle.lineage.specs.Index.{Index}
use Rattle.lineage.specs.Question.{inside, outside, first_labelling, rule3, net_of, walk, Answer}
use Rattle.laws.specs.Leads.{Down, stay}
use Rattle.laws.specs.Sound.{Sound}
use Rattle.laws.proofs.Tests.{or_left, or_right, clash}
use Rattle.laws.proofs.Grouped.{group_name}
use Rattle.laws_answers.specs.Walks.{End, nowhere, yes_at, Walks, Through}
use Rattle.laws_answers.specs.Answers.{no_marks, Deciding, by_inner, by_outer, by_walk_lem, none_1, none_3, none_6, Opened, unopened, finding, failing, Marked}
use Rattle.laws_answers.proofs.Tries.{Judges, ends_yes, walk_yes, walk_no}
use Rattle.laws_answers.proofs.Through.{passes, opened_through}
use Rattle.laws_answers.proofs.Walked.{is_yes, number_at, Ran}
use Rattle.laws_answers.proofs.Labellings.{first_is}
use Rattle.laws_answers.proofs.Nets.{lower, walk_ran, mark_is, marked_of}
use Rattle.laws_answers.proofs.Intervals.{judged}
use Rattle.laws_answers.proofs.Rules.{after_walk, Rule, rule_1, rule_2, rule_3, rule_4, rule_5, rule_6}

module _ (I : Index) (S : Sound I) (x t : ℕ) (bx : x < length I.children) where
  abbrev W : Ran (net_of I t) (length I.children) (no_marks I) (get_or I.children x []) (x ∷ []) 0 (walk I t x (no_marks I))
  W = walk_ran I S x t bx

  -- a walk that finds t ends at a child, and the labelling that decided is the first of rule 2 there
  walk_finds :
      (walk I t x (no_marks I)).found ≡ true
      → (h : ℕ) × Walks (net_of I t) x (yes_at h) W.groups × ((walk I t x (no_marks I)).deciding ≡ first_labelling (inside h t) I.labels)
  walk_finds f = at W.end W.run W.told.found_is W.told.deciding_is
    where
      at :
          (e : End) → Walks (net_of I t) x e W.groups → (walk I t x (no_marks I)).found ≡ is_yes e → (walk I t x (no_marks I)).deciding ≡ number_at (net_of I t) e
          → (h : ℕ) × Walks (net_of I t) x (yes_at h) W.groups × ((walk I t x (no_marks I)).deciding ≡ first_labelling (inside h t) I.labels)
      at nowhere w g d = clash f g
      at (yes_at h) w g d = (h, w, d)

  -- any other ends nowhere, and none decided
  walk_fails : (walk I t x (no_marks I)).found ≡ false → Walks (net_of I t) x nowhere W.groups × ((walk I t x (no_marks I)).deciding ≡ 0)
  walk_fails f = at W.end W.run W.told.found_is W.told.deciding_is
    where
      at :
          (e : End) → Walks (net_of I t) x e W.groups → (walk I t x (no_marks I)).found ≡ is_yes e → (walk I t x (no_marks I)).deciding ≡ number_at (net_of I t) e
          → Walks (net_of I t) x nowhere W.groups × ((walk I t x (no_marks I)).deciding ≡ 0)
      at nowhere w g d = (w, d)
      at (yes_at h) w g d = clash g f

  none_marked : {a : Answer} → a.opened ≡ 0 → a.marks ≡ no_marks I → Marked I [] a
  none_marked = marked_of I S [] (record { once = tt; low = λ p i. absurd (false≢true i) })

  walk_marked : {a : Answer} → a.opened ≡ (walk I t x (no_marks I)).opened → a.marks ≡ (walk I t x (no_marks I)).marks → Marked I W.groups a
  walk_marked c m = marked_of I S W.groups W.told.held (omega (arith, W.count)) (m ∙ W.told.marks_are)

  -- the groups that the walk opened are those that are counted and marked
  pub rule_opened : {a : Answer} → Rule I x t a → (o : List ℕ) × Opened I x t a.reason o × Marked I o a
  rule_opened (rule_1 s) = ([], unopened {r = 1} (omega arith), none_marked refl refl)
  rule_opened (rule_2 n y) = ([], unopened {r = 2} (omega arith), none_marked refl refl)
  rule_opened (rule_3 n y l) = ([], unopened {r = 3} (omega arith), none_marked refl refl)
  rule_opened (rule_4 n y l o) = ([], unopened {r = 4} (omega arith), none_marked refl refl)
  rule_opened (rule_5 n y p w) = (W.groups, finding (walk_finds w).1, walk_marked refl refl)
  rule_opened (rule_6 n y p w) = (W.groups, failing (walk_fails w).0, walk_marked refl refl)

  -- the deciding number is that of the first labelling whose test holds
  pub rule_deciding : {a : Answer} → Rule I x t a → Deciding I x t a.reason a.deciding
  rule_deciding (rule_1 s) = none_1
  rule_deciding (rule_2 n y) = let (i, j, F) = first_is (inside x t) I.labels y in rw j (by_inner F)
  rule_deciding (rule_3 n y l) = none_3
  rule_deciding (rule_4 n y l o) = let (i, j, F) = first_is (outside x t) I.labels o in rw j (by_outer F)
  rule_deciding (rule_5 n y p w) =
      let (h, r, d) = walk_finds w in
      let (i, j, F) = first_is (inside h t) I.labels (ends_yes r) in
      rw (d, j) (by_walk_lem r F)
  rule_deciding (rule_6 n y p w) = rw (walk_fails w).1 none_6

  module _ (bt : t < length I.children) (some : 0 < length I.labels) where
    abbrev J : Judges (net_of I t) (length I.children) t
    J = judged I S some t bt

    -- yes exactly where a path down children leads from x to t
    pub rule_down : {a : Answer} → Rule I x t a → (a.says ≡ true) ↔ Down I.children x t
    rule_down (rule_1 s) = (λ h. rw s stay, λ d. refl)
    rule_down (rule_2 n y) = (λ h. J.hits x bx y, λ d. refl)
    rule_down (rule_3 n y l) = (λ h. absurd (false≢true h), λ d. clash (or_left _ l) (J.lets x bx d n))
    rule_down (rule_4 n y l o) = (λ h. absurd (false≢true h), λ d. clash (or_right (rule3 I x t) o) (J.lets x bx d n))
    rule_down (rule_5 n y p w) = (λ h. walk_yes (lower I S t) J bx (walk_finds w).1, λ d. refl)
    rule_down (rule_6 n y p w) = (λ h. absurd (false≢true h), λ d. absurd (walk_no (lower I S t) J bx y (walk_fails w).0 d))

    -- of a source that rule 3 or 4 rules out nothing is reached and nothing is marked
    ruled_out :
        (net_of I t).no x ≡ true
        → (p : ℕ) → p < length I.children → (get_or (no_marks I) (get_or I.groups p 0) 0 ≡ 1) ↔ Through (net_of I t).children (net_of I t).no x p
    ruled_out out p b = (
      (λ h. absurd (omega (arith, get_or-replicate {A = ℕ} (length I.names) (get_or I.groups p 0) 0 0 (group_name S.condensed p b).0))),
      λ v. clash out (passes v),
    )

    -- on a no the marked groups are those reached from x through rules 3 and 4
    pub rule_no :
        {a : Answer} → Rule I x t a → a.says ≡ false
        → (p : ℕ) → p < length I.children → (get_or a.marks (get_or I.groups p 0) 0 ≡ 1) ↔ Through (net_of I t).children (net_of I t).no x p
    rule_no (rule_1 s) never p b = absurd (true≢false never)
    rule_no (rule_2 n y) never p b = absurd (true≢false never)
    rule_no (rule_3 n y l) never p b = ruled_out (or_left _ l) p b
    rule_no (rule_4 n y l o) never p b = ruled_out (or_right (rule3 I x t) o) p b
    rule_no (rule_5 n y q w) never p b = absurd (true≢false never)
    rule_no (rule_6 n y q w) never p b =
        let M : Marked I W.groups (after_walk false 6 (walk I t x (no_marks I))) = walk_marked refl refl in
        let marked = mark_is I S W.groups M.low p b in
        let through = opened_through (lower I S t) J bx y q (walk_fails w).0 p in
        (λ h. through.0 (marked.0 (rw M.marks at h)), λ v. rw M.marks (marked.1 (through.1 v)))
