-- The reason is the number of the first rule that holds, and it tells yes from no. The definition tries rules 1 to 4 in order and then walks, so an
-- answer is one of six (`Rule`), each with what failed before it: of the rules before its own none holds.
use mathlib.Core.Bool.{Bool, true, false, ◌||◌, cond}
use mathlib.Core.Logic.{◌↔◌, ◌≢◌}
use mathlib.Core.Path.{◌≡◌, refl, subst}
use Prim.Native.Nat.{ℕ, suc, ◌<◌, ◌≤◌}
use native.Mathlib.Decide.{ℕ_discrete, dec_lt}
use native.Mathlib.Omega.{arith}
use lib.Dec.{eqb}
use borrow.Author.Tests.{eqb-true, eqb-false}
use Rattle.lineage.specs.Index.{Index}
use Rattle.lineage.specs.Walk.{Walked}
use Rattle.lineage.specs.Question.{inside, outside, first_labelling, rule2, rule3, rule4, walk, Answer, plain, decided, place_in, answer}
use Rattle.laws.proofs.Tests.{clash, or_false_left, or_false_right}
use Rattle.laws_answers.specs.Answers.{no_marks, Holds, same, inner, level, outer, found, otherwise}

-- an answer under reasons 5 and 6
abbrev pub after_walk : Bool → ℕ → Walked → Answer
after_walk b r w = record { says = b; reason = r; deciding = w.deciding; opened = w.opened; marks = w.marks }

-- the rule that decides, and its answer
pub data Rule (I : Index) (x t : ℕ) : Answer → Type 0 where
  rule_1 : x ≡ t → Rule I x t (plain true 1 0 (no_marks I))
  rule_2 : x ≢ t → rule2 I x t ≡ true → Rule I x t (plain true 2 (first_labelling (inside x t) I.labels) (no_marks I))
  rule_3 : x ≢ t → rule2 I x t ≡ false → rule3 I x t ≡ true → Rule I x t (plain false 3 0 (no_marks I))
  rule_4 :
      x ≢ t → rule2 I x t ≡ false → rule3 I x t ≡ false → rule4 I x t ≡ true
      → Rule I x t (plain false 4 (first_labelling (outside x t) I.labels) (no_marks I))
  rule_5 :
      x ≢ t → rule2 I x t ≡ false → (rule3 I x t || rule4 I x t) ≡ false → (walk I t x (no_marks I)).found ≡ true
      → Rule I x t (after_walk true 5 (walk I t x (no_marks I)))
  rule_6 :
      x ≢ t → rule2 I x t ≡ false → (rule3 I x t || rule4 I x t) ≡ false → (walk I t x (no_marks I)).found ≡ false
      → Rule I x t (after_walk false 6 (walk I t x (no_marks I)))

module _ (I : Index) (x t : ℕ) where
  walk_rule :
      x ≢ t → rule2 I x t ≡ false → (rule3 I x t || rule4 I x t) ≡ false
      → (b : Bool) → (walk I t x (no_marks I)).found ≡ b → Rule I x t (after_walk b (cond b 5 6) (walk I t x (no_marks I)))
  walk_rule n e f true w = rule_5 n e f w
  walk_rule n e f false w = rule_6 n e f w

  rule_of :
      (a b c d : Bool) → eqb x t ≡ a → rule2 I x t ≡ b → rule3 I x t ≡ c → rule4 I x t ≡ d
      → Rule I x t (decided a b c d (first_labelling (inside x t) I.labels) (first_labelling (outside x t) I.labels) (walk I t x) (no_marks I))
  rule_of true b c d e f g h = rule_1 (eqb-true x t e)
  rule_of false true c d e f g h = rule_2 (eqb-false x t e) f
  rule_of false false true d e f g h = rule_3 (eqb-false x t e) f g
  rule_of false false false true e f g h = rule_4 (eqb-false x t e) f g h
  rule_of false false false false e f g h = walk_rule (eqb-false x t e) f (rw (g, h)) (walk I t x (no_marks I)).found refl

-- each answer is that of one rule
pub answer_rule : (I : Index) (u v : ℕ) → Rule I (place_in I u) (place_in I v) (answer I u v)
unfolding answer
answer_rule I u v =
    let x = place_in I u in
    let t = place_in I v in
    rule_of I x t (eqb x t) (rule2 I x t) (rule3 I x t) (rule4 I x t) refl refl refl refl

-- the reason tells yes from no
pub rule_says : {I : Index} {x t : ℕ} {a : Answer} → Rule I x t a → a.says ≡ (eqb a.reason 1 || eqb a.reason 2 || eqb a.reason 5)
rule_says (rule_1 s) = refl
rule_says (rule_2 n y) = refl
rule_says (rule_3 n y l) = refl
rule_says (rule_4 n y l o) = refl
rule_says (rule_5 n y p w) = refl
rule_says (rule_6 n y p w) = refl

-- under reasons 1 to 4 no group is opened
pub rule_unopened : {I : Index} {x t : ℕ} {a : Answer} → Rule I x t a → a.reason ≤ 4 → (a.opened ≡ 0) × (a.marks ≡ no_marks I)
rule_unopened (rule_1 s) h = (refl, refl)
rule_unopened (rule_2 n y) h = (refl, refl)
rule_unopened (rule_3 n y l) h = (refl, refl)
rule_unopened (rule_4 n y l o) h = (refl, refl)
rule_unopened (rule_5 n y p w) h = absurd (omega arith)
rule_unopened (rule_6 n y p w) h = absurd (omega arith)

module _ (I : Index) (x t : ℕ) where
  -- no rule below r holds
  abbrev NoneBelow : ℕ → Type 0
  NoneBelow r = (q : ℕ) → q < r → Holds I x t q → ⊥

  -- one more that does not hold
  none_more : (r : ℕ) → NoneBelow r → (Holds I x t r → ⊥) → NoneBelow (suc r)
  none_more r none n q b h = at (ℕ_discrete q r)
    where
      at : Dec (q ≡ r) → ⊥
      at (yes e) = n (subst (Holds I x t) e h)
      at (no e) = none q (omega arith) h

  below_1 : NoneBelow 1
  below_1 = none_more 0 (λ q b h. omega arith) (λ h. elim h [ ])

  below_2 : x ≢ t → NoneBelow 2
  below_2 n = none_more 1 below_1 (λ h. elim h [ same s ↦ n s ])

  below_3 : x ≢ t → rule2 I x t ≡ false → NoneBelow 3
  below_3 n y = none_more 2 (below_2 n) (λ h. elim h [ inner i ↦ clash i y ])

  below_4 : x ≢ t → rule2 I x t ≡ false → rule3 I x t ≡ false → NoneBelow 4
  below_4 n y l = none_more 3 (below_3 n y) (λ h. elim h [ level i ↦ clash i l ])

  below_5 : x ≢ t → rule2 I x t ≡ false → (rule3 I x t || rule4 I x t) ≡ false → NoneBelow 5
  below_5 n y p = none_more 4 (below_4 n y (or_false_left (rule3 I x t) _ p)) (λ h. elim h [ outer i ↦ clash i (or_false_right (rule3 I x t) _ p) ])

  rule_first : {a : Answer} → Rule I x t a → Holds I x t a.reason × NoneBelow a.reason
  rule_first (rule_1 s) = (same s, below_1)
  rule_first (rule_2 n y) = (inner y, below_2 n)
  rule_first (rule_3 n y l) = (level l, below_3 n y)
  rule_first (rule_4 n y l o) = (outer o, below_4 n y l)
  rule_first (rule_5 n y p w) = (found w, below_5 n y p)
  rule_first (rule_6 n y p w) = (otherwise, none_more 5 (below_5 n y p) (λ h. elim h [ found i ↦ clash i w ]))

  -- the reason is r exactly where r is the first rule that holds
  pub rule_reason : {a : Answer} → Rule I x t a → (r : ℕ) → (a.reason ≡ r) ↔ (Holds I x t r × ((q : ℕ) → q < r → Holds I x t q → ⊥))
  rule_reason {a} R r = (
    λ e. subst (λ q. Holds I x t q × NoneBelow q) e (rule_first R),
    λ h. at h (ℕ_discrete a.reason r) (dec_lt a.reason r),
  )
    where
      at : Holds I x t r × NoneBelow r → Dec (a.reason ≡ r) → Dec (a.reason < r) → a.reason ≡ r
      at h (yes e) d = e
      at h (no n) (yes b) = absurd (h.1 a.reason b (rule_first R).0)
      at h (no n) (no b) = absurd ((rule_first R).1 r (omega arith) h.0)
