-- Where m is s no question opens a group. If rule 4 fails in a labelling, the target's s is not below the source's s, which is m, and its e is not above
-- the source's e; so its e, not below its s, lies in the source's inner interval, and rule 2 holds. One of the rules 1 to 4 therefore decides.
use mathlib.Core.Bool.{Bool, true, false, ◌||◌, cond}
use mathlib.Core.Path.{◌≡◌, refl}
use Prim.Native.Nat.{ℕ, ◌<◌, ◌≤◌}
use native.Mathlib.Omega.{arith}
use lib.Dec.{eqb}
use lib.ListN.{length, get_or}
use borrow.Author.Tests.{le-leb}
use Rattle.lineage.specs.Labels.{Labelling}
use Rattle.lineage.specs.Index.{Index}
use Rattle.lineage.specs.Question.{inside, outside, rule2, rule3, rule4, Answer, place_in, answer}
use Rattle.lineage.specs.Sound.{is_tree}
use Rattle.laws.specs.Sound.{SoundLabelling, Sound}
use Rattle.laws.proofs.Tests.{clash, and_both, or_false_right}
use Rattle.laws.proofs.Every.{every_from}
use Rattle.laws.proofs.Grouped.{place_low}
use Rattle.laws_answers.specs.Answers.{Member, no_marks, Deciding, by_inner, by_outer, by_walk_lem, none_1, none_3, none_6}
use Rattle.laws_answers.proofs.Members.{every_member, first_member}
use Rattle.laws_answers.proofs.Labellings.{is_some}
use Rattle.laws_answers.proofs.Rules.{Rule, rule_1, rule_2, rule_3, rule_4, rule_5, rule_6, answer_rule, rule_unopened}
use Rattle.laws_answers.proofs.Answers.{rule_deciding}
use Rattle.laws_hierarchy.specs.Hierarchy.{Contained, Alike}
use Rattle.laws_hierarchy.proofs.Contained.{contained_test, outer_low, tree_inner}

-- in a plain hierarchy m is s in each labelling
pub tree_alike : (I : Index) → Sound I → is_tree I.children ≡ true → Alike I
tree_alike I S tree = every_from (SoundLabelling I.children) (λ l. l.m ≡ l.s) (λ l L. tree_inner I S l L tree) I.labels S.labelled

module _ (I : Index) (S : Sound I) (alike : Alike I) where
  abbrev k : ℕ
  k = length I.children

  -- what is not outside is inside
  inside_or : (l : Labelling) → Member l I.labels → (x t : ℕ) → t < k → outside x t l ≡ false → inside x t l ≡ true
  inside_or l i x t bt o =
      let L : SoundLabelling I.children l = every_member (SoundLabelling I.children) S.labelled i in
      let same : l.m ≡ l.s = every_member (λ (j : Labelling). j.m ≡ j.s) alike i in
      let c : Contained l x t = (contained_test l x t).0 o in
      let inner : get_or l.m x 0 ≤ get_or l.e t 0 = rw same (omega (arith, c.0, outer_low I S l L t bt)) in
      and_both (le-leb (get_or l.m x 0) (get_or l.e t 0) inner) (le-leb (get_or l.e t 0) (get_or l.e x 0) c.1)

  module _ (some : 0 < length I.labels) where
    -- where rule 2 fails, rule 4 holds
    pub fourth : (x t : ℕ) → t < k → rule2 I x t ≡ false → rule4 I x t ≡ true
    fourth x t bt n =
        let (l, i) = first_member I.labels some in
        at l i (outside x t l) refl
      where
        at : (l : Labelling) → Member l I.labels → (b : Bool) → outside x t l ≡ b → rule4 I x t ≡ true
        at l i true o = is_some (outside x t) i o
        at l i false o = clash (is_some (inside x t) i (inside_or l i x t bt o)) n

    -- so the reason is 1 to 4
    rule_low : {x t : ℕ} {a : Answer} → t < k → Rule I x t a → a.reason ≤ 4
    rule_low bt (rule_1 s) = omega arith
    rule_low bt (rule_2 n y) = omega arith
    rule_low bt (rule_3 n y l) = omega arith
    rule_low bt (rule_4 n y l o) = omega arith
    rule_low {x} {t} bt (rule_5 n y p w) = clash (fourth x t bt y) (or_false_right (rule3 I x t) _ p)
    rule_low {x} {t} bt (rule_6 n y p w) = clash (fourth x t bt y) (or_false_right (rule3 I x t) _ p)

    -- nothing is opened and no mark is left
    pub none_opened : (u v : ℕ) → v < length I.names → ((answer I u v).reason ≤ 4) × ((answer I u v).opened ≡ 0) × ((answer I u v).marks ≡ no_marks I)
    none_opened u v bv =
        let low : (answer I u v).reason ≤ 4 = rule_low (place_low S.condensed v bv) (answer_rule I u v) in
        let none = rule_unopened (answer_rule I u v) low in
        (low, none.0, none.1)

  -- with one labelling it decides under 2 and 4, and none does under 1 and 3
  decides_first : (x t r j : ℕ) → length I.labels ≡ 1 → r ≤ 4 → Deciding I x t r j → j ≡ cond (eqb r 2 || eqb r 4) 1 0
  decides_first x t r j d low (by_inner F) = omega (arith, F.within)
  decides_first x t r j d low (by_outer F) = omega (arith, F.within)
  decides_first x t r j d low (by_walk_lem w F) = absurd (omega arith)
  decides_first x t r j d low none_1 = refl
  decides_first x t r j d low none_3 = refl
  decides_first x t r j d low none_6 = absurd (omega arith)

  pub first_decides :
      length I.labels ≡ 1 → (u v : ℕ) → u < length I.names → v < length I.names
      → (answer I u v).deciding ≡ cond (eqb (answer I u v).reason 2 || eqb (answer I u v).reason 4) 1 0
  first_decides d u v bu bv =
      decides_first (place_in I u) (place_in I v) (answer I u v).reason (answer I u v).deciding d (none_opened (omega arith) u v bv).0
      (rule_deciding I S (place_in I u) (place_in I v) (place_low S.condensed u bu) (answer_rule I u v))
