-- What the two tests of a child tell: its level and mark, looked at first, and then the labellings. On a sound index rule 2 says yes of no child that is passed over
-- by them.
use mathlib.Core.Bool.{Bool, true, false, not, ◌||◌, cond}
use mathlib.Core.Logic.{◌⊎◌, inl, inr, ◌≢◌}
use mathlib.Core.Path.{◌≡◌, refl, sym, ap, ◌∙◌}
use mathlib.Core.List.{List}
use Prim.Native.Nat.{ℕ, ◌<◌}
use native.Mathlib.Omega.{arith}
use lib.Dec.{eqb, leb, ltb}
use lib.ListN.{get_or}
use borrow.Author.Tests.{eqb-true, eqb-false, not-true, not-false, lt-ltb}
use Rattle.lineage.specs.Numbers.{num_at}
use Rattle.lineage.specs.Index.{Index}
use Rattle.lineage.specs.Walk.{Net, marked}
use Rattle.lineage.specs.Question.{inside, outside, first_labelling, rule2, rule3, rule4}
use Rattle.laws.proofs.Tests.{or_left, or_right, clash, is_false}
use Rattle.numbers.proofs.Numbers.{numbers_at}
use Rattle.stored.specs.Sections.{labels_in}
use Rattle.ask_intervals.specs.declared.Judged.TheVariants.{Inside, Outside, Neither}
use Rattle.ask_intervals.specs.Intervals.{judged}
use Rattle.ask_intervals.proofs.Deciding.{first_given, judged_tells}
use Rattle.ask_walk.specs.Fit.{groups_in, net_in, skips, Fit, Safe}
use Rattle.ask_walk.proofs.Nets.{net_spot, net_yes, net_deciding, net_not_yes}

-- one of two tests, by a third
chosen : (a n q r b : Bool) → r ≡ cond a n q → r ≡ b → ((a ≡ true) × (n ≡ b)) ⊎ ((a ≡ false) × (q ≡ b))
chosen true n q r b e f = inl (refl, sym e ∙ f)
chosen false n q r b e f = inr (refl, sym e ∙ f)

none_of : (a b c : Bool) → a ≡ false → b ≡ false → c ≡ false → (a || (b || c)) ≡ false
none_of a b c p q r = rw (p, q, r)

module _ {w k d t : ℕ} {groups levels starts children labels : List ℕ} {marks : ℕ} (F : Fit w k d t groups levels starts children labels marks)
    {m : List ℕ} (S : Safe (net_in w k d t groups levels starts children labels) k m) {h : ℕ} (low : h < k) where
  abbrev N : Net
  N = net_in w k d t groups levels starts children labels

  abbrev I : Index
  I = groups_in w k d groups levels starts children labels

  net_no : N.no h ≡ (rule3 I h t || rule4 I h t)
  unfolding net_in
  net_no = refl

  net_two : N.yes h ≡ rule2 I h t
  unfolding net_in
  net_two = refl

  three : leb (num_at w levels h) (num_at w levels t) ≡ rule3 I h t
  three = rw (numbers_at w levels k h low, numbers_at w levels k t F.target_low) refl

  mark : eqb (get_or m (num_at w groups h) 0) 1 ≡ marked N m h
  mark = rw (net_spot F h low) refl

  -- h is passed over
  abbrev Over : Type 0
  Over = (N.yes h ≡ false) × ((marked N m h || N.no h) ≡ true)

  -- level and mark
  module _ {r : Bool} (is : r ≡ skips w t groups levels m h) where
    by_level : rule3 I h t ≡ true → h ≢ t → Over
    by_level e n = (
      net_two ∙ is_false (rule2 I h t) (λ y. clash e (F.sure.not_3 h low y n)),
      or_right (marked N m h) (net_no ∙ or_left (rule4 I h t) e),
    )

    by_mark : marked N m h ≡ true → Over
    by_mark e = (is_false (N.yes h) (λ y. clash e (S.each h low y)), or_left (N.no h) e)

    pub skip_over : r ≡ true → Over
    skip_over e =
        elim (chosen (leb (num_at w levels h) (num_at w levels t)) (not (eqb h t)) (eqb (get_or m (num_at w groups h) 0) 1) r true is e) [
          | inl c ↦ by_level (sym three ∙ c.0) (eqb-false h t (not-true (eqb h t) c.1))
          | inr c ↦ by_mark (sym mark ∙ c.1)
        ]

    -- what is not passed over, and is not the target, is above it and not marked
    pub skip_not : r ≡ false → h ≢ t → (marked N m h ≡ false) × (rule3 I h t ≡ false)
    skip_not e n =
        elim (chosen (leb (num_at w levels h) (num_at w levels t)) (not (eqb h t)) (eqb (get_or m (num_at w groups h) 0) 1) r false is e) [
          | inl c ↦ absurd (eqb-false h t (is_false (eqb h t) (λ z. n (eqb-true h t z))) (eqb-true h t (not-false (eqb h t) c.1)))
          | inr c ↦ (sym mark ∙ c.1, sym three ∙ c.0)
        ]

  four : rule4 I h t ≡ ltb 0 (first_labelling (outside h t) (labels_in w 3 labels k d))
  four = first_given (outside h t) (labels_in w 3 labels k d)

  -- the labellings
  pub judged_hit : {n : ℕ} → Inside n ≡ judged h t (labels_in w 3 labels k d) → (N.yes h ≡ true) × (n ≡ N.deciding h)
  judged_hit {n} told =
      let first = judged_tells h t (labels_in w 3 labels k d) told in
      (net_yes F h n first.1 first.0, net_deciding F h n first.1)

  pub judged_cut : {n : ℕ} → Outside n ≡ judged h t (labels_in w 3 labels k d) → Over
  judged_cut {n} told =
      let first = judged_tells h t (labels_in w 3 labels k d) told in
      let cut : rule4 I h t ≡ true = four ∙ rw (← first.1) (lt-ltb 0 n first.0) in (
        net_two ∙ is_false (rule2 I h t) (λ y. clash cut (F.sure.not_4 h low y)),
        or_right (marked N m h) (net_no ∙ or_right (rule3 I h t) cut),
      )

  module _ (told : Neither ≡ judged h t (labels_in w 3 labels k d)) where
    neither : (first_labelling (inside h t) (labels_in w 3 labels k d) ≡ 0) × (first_labelling (outside h t) (labels_in w 3 labels k d) ≡ 0)
    neither = judged_tells h t (labels_in w 3 labels k d) told

    pub judged_missed : N.yes h ≡ false
    judged_missed = net_not_yes F h 0 (sym neither.0) (omega arith)

    other : h ≢ t
    other z = clash F.sure.home (ap (λ (q : ℕ). rule2 I q t) (sym z) ∙ sym net_two ∙ judged_missed)

    pub judged_free : {r : Bool} → r ≡ skips w t groups levels m h → r ≡ false → (marked N m h || N.no h) ≡ false
    judged_free is f =
        let both = skip_not is f other in
        ap (λ (b : Bool). marked N m h || b) net_no
        ∙ none_of (marked N m h) (rule3 I h t) (rule4 I h t) both.0 both.1 (four ∙ ap (ltb 0) neither.1)
