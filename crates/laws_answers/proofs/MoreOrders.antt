-- With the labellings of another index among its own, an index says the same, opens no group that the other does not open, and counts no more.
-- Both say yes exactly where a path down children leads to the target. A rule 1 to 4 that holds by some of the labellings holds by more of them, so
-- where the second index walks, the first does too; and then the second walk opens only what the first opens.
use mathlib.Core.Bool.{Bool, true, false, ◌||◌, false≢true}
use mathlib.Core.Logic.{inl, inr, ◌↔◌}
use mathlib.Core.Path.{◌≡◌, refl, sym}
use mathlib.Core.List.{List}
use Prim.Native.Nat.{ℕ, ◌<◌, ◌≤◌}
use native.Mathlib.Decide.{dec_lt}
use native.Mathlib.Omega.{arith}
use lib.ListN.{length}
use Rattle.lineage.specs.Labels.{Labelling}
use Rattle.lineage.specs.Index.{Index}
use Rattle.lineage.specs.Question.{some_labelling, inside, outside, rule3, net_of, Answer}
use Rattle.laws.specs.Sound.{Sound}
use Rattle.laws.proofs.Tests.{or_cases, clash, is_false, or_false_left, or_false_right}
use Rattle.laws.proofs.Rising.{pigeonhole}
use Rattle.laws_answers.specs.Walks.{◌∈◌, End, Walks}
use Rattle.laws_answers.specs.Answers.{Member, Holds, same, inner, level, outer, found, otherwise, Opened, unopened, finding, failing, NoMore}
use Rattle.laws_answers.proofs.Fewer.{opened_fewer}
use Rattle.laws_answers.proofs.Labellings.{some_more}
use Rattle.laws_answers.proofs.Nets.{lower, marks_more}
use Rattle.laws_answers.proofs.Intervals.{judged}
use Rattle.laws_answers.proofs.Rules.{Rule, rule_reason}
use Rattle.laws_answers.proofs.Answers.{rule_opened, rule_down}

-- the same index with other labellings
abbrev pub with_labels : Index → List Labelling → Index
with_labels I ls = record { names = I.names; groups = I.groups; levels = I.levels; children = I.children; labels = ls }

-- two tests that stand for one fact are equal
one_test : {P : Type 0} (a b : Bool) → (a ≡ true) ↔ P → (b ≡ true) ↔ P → a ≡ b
one_test true true f g = refl
one_test true false f g = sym (g.1 (f.0 refl))
one_test false true f g = f.1 (g.0 refl)
one_test false false f g = refl

module _ (I : Index) (ls₁ ls₂ : List Labelling) (up : (l : Labelling) → Member l ls₁ → Member l ls₂) (x t : ℕ) where
  abbrev I₁ : Index
  I₁ = with_labels I ls₁

  abbrev I₂ : Index
  I₂ = with_labels I ls₂

  -- a rule 1 to 4 that holds by the first labellings holds by the second
  holds_more : {r : ℕ} → Holds I₁ x t r → r ≤ 4 → Holds I₂ x t r
  holds_more (same e) b = same e
  holds_more (inner e) b = inner (some_more (inside x t) ls₁ ls₂ up e)
  holds_more (level e) b = level e
  holds_more (outer e) b = outer (some_more (outside x t) ls₁ ls₂ up e)
  holds_more (found e) b = absurd (omega arith)
  holds_more otherwise b = absurd (omega arith)

  fewer_pass : (h : ℕ) → (rule3 I h t || some_labelling (outside h t) ls₂) ≡ false → (rule3 I h t || some_labelling (outside h t) ls₁) ≡ false
  fewer_pass h e =
      is_false _ (λ f. elim (or_cases (rule3 I h t) (some_labelling (outside h t) ls₁) f) [
        | inl g ↦ clash g (or_false_left (rule3 I h t) _ e)
        | inr g ↦ clash (some_more (outside h t) ls₁ ls₂ up g) (or_false_right (rule3 I h t) _ e)
      ])

  module _ (S₁ : Sound I₁) (S₂ : Sound I₂) (some₁ : 0 < length ls₁) (some₂ : 0 < length ls₂) (bx : x < length I.children) (bt : t < length I.children) where
    walks_fewer : {e₁ e₂ : End} {o₁ o₂ : List ℕ} → Walks (net_of I₁ t) x e₁ o₁ → Walks (net_of I₂ t) x e₂ o₂ → (g : ℕ) → g ∈ o₂ → g ∈ o₁
    walks_fewer w₁ w₂ =
        opened_fewer (lower I₁ S₁ t) (lower I₂ S₂ t) (judged I₁ S₁ some₁ t bt) (judged I₂ S₂ some₂ t bt) refl fewer_pass (λ h. some_more (inside h t) ls₁ ls₂ up) bx w₁ w₂

    walked_fewer : {r : ℕ} {e : End} {o₁ o₂ : List ℕ} → (r ≤ 4 → ⊥) → Opened I₁ x t r o₁ → Walks (net_of I₂ t) x e o₂ → (g : ℕ) → g ∈ o₂ → g ∈ o₁
    walked_fewer n (unopened b) w₂ = absurd (n b)
    walked_fewer n (finding w₁) w₂ = walks_fewer w₁ w₂
    walked_fewer n (failing w₁) w₂ = walks_fewer w₁ w₂

    fewer : {r₁ r₂ : ℕ} {o₁ o₂ : List ℕ} → (r₁ ≤ 4 → r₂ ≤ 4) → Opened I₁ x t r₁ o₁ → Opened I₂ x t r₂ o₂ → (g : ℕ) → g ∈ o₂ → g ∈ o₁
    fewer early O₁ (unopened b) = λ g i. absurd (false≢true i)
    fewer early O₁ (finding w₂) = walked_fewer (λ b. omega (arith, early b)) O₁ w₂
    fewer early O₁ (failing w₂) = walked_fewer (λ b. omega (arith, early b)) O₁ w₂

    -- where the first index does not walk, neither does the second
    early : {a₁ a₂ : Answer} → Rule I₁ x t a₁ → Rule I₂ x t a₂ → a₁.reason ≤ 4 → a₂.reason ≤ 4
    early {a₁} {a₂} R₁ R₂ b =
        elim (dec_lt a₁.reason a₂.reason) [
          | yes c ↦ absurd (((rule_reason I₂ x t R₂ a₂.reason).0 refl).1 a₁.reason c (holds_more ((rule_reason I₁ x t R₁ a₁.reason).0 refl).0 b))
          | no c ↦ omega arith
        ]

    -- the two answers side by side
    pub rules_no_more : {a₁ a₂ : Answer} → Rule I₁ x t a₁ → Rule I₂ x t a₂ → NoMore a₁ a₂
    rules_no_more {a₁} {a₂} R₁ R₂ =
        let (o₁, O₁, M₁) = rule_opened I₁ S₁ x t bx R₁ in
        let (o₂, O₂, M₂) = rule_opened I₂ S₂ x t bx R₂ in
        let sub : (g : ℕ) → g ∈ o₂ → g ∈ o₁ = fewer (early R₁ R₂) O₁ O₂ in
        record {
          says = one_test a₂.says a₁.says (rule_down I₂ S₂ x t bx bt some₂ R₂) (rule_down I₁ S₁ x t bx bt some₁ R₁);
          marks = λ i h. rw M₁.marks (marks_more I₁ S₁ o₁ o₂ M₁.low sub i (rw M₂.marks at h));
          count = omega (arith, M₁.count, M₂.count, pigeonhole o₂ o₁ M₂.once sub);
        }
