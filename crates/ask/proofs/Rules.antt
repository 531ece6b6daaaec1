-- The six rules over fit sections, each from what the code has read by then: the first that holds decides. The level is read before the labels: where it decides, rule 2
-- cannot hold.
use mathlib.Core.Bool.{Bool, true, false, cond}
use mathlib.Core.Logic.{◌≢◌}
use mathlib.Core.Path.{◌≡◌, refl, sym, ap, ◌∙◌}
use mathlib.Core.List.{List, [], ◌∷◌}
use Prim.Native.Nat.{ℕ, suc, ◌+◌, ◌≤◌, ◌<◌}
use native.Mathlib.Omega.{arith}
use native.Mathlib.Numerals.{add-one}
use lib.Dec.{leb, ltb}
use lib.ListN.{length, get_or}
use borrow.Author.Tests.{eq-eqb, ne_eqb, le-leb, lt-leb, lt-ltb}
use Rattle.lineage.specs.Labels.{Labelling}
use Rattle.lineage.specs.Numbers.{num_at}
use Rattle.lineage.specs.Stored.{most_labellings}
use Rattle.lineage.specs.Index.{Index}
use Rattle.lineage.specs.Walk.{Walked, walked, open_at}
use Rattle.lineage.specs.Question.{inside, outside, first_from, first_labelling, rule2, rule3, rule4, net_of, walk, by_walk, between}
use Rattle.laws.proofs.Tests.{clash, is_false}
use Rattle.numbers.proofs.Numbers.{numbers_at}
use Rattle.stored.specs.Sections.{labels_in}
use Rattle.stored.proofs.Sections.{labels_long}
use Rattle.ask_intervals.specs.declared.Judged.TheVariants.{Inside, Outside, Neither}
use Rattle.ask_intervals.specs.Intervals.{judged}
use Rattle.ask_intervals.proofs.Deciding.{first_given, judged_tells}
use Rattle.ask.specs.declared.Asked.{Asked}
use Rattle.ask_walk.specs.Fit.{groups_in, net_in, Fit}
use Rattle.ask.specs.Replies.{answer_by}
use Rattle.ask_walk.proofs.Counting.{Gains, ones_low, open_gains, open_deciding}
use Rattle.ask_walk.proofs.Nets.{net_spot, net_within}

-- a labelling's number is at most their count
first_from_lem : (p : Labelling → Bool) (n : ℕ) (ls : List Labelling) → first_from (suc n) p ls ≤ n + length ls
first_from_lem p n [] = omega arith
first_from_lem p n (l ∷ ls) = at (p l) (first_from_lem p (suc n) ls)
  where
    at : (b : Bool) → first_from (suc (suc n)) p ls ≤ suc n + length ls → cond b (suc n) (first_from (suc (suc n)) p ls) ≤ n + suc (length ls)
    at true ih = omega arith
    at false ih = omega arith

first_low : (p : Labelling → Bool) (w k d : ℕ) (labels : List ℕ) → first_labelling p (labels_in w 3 labels k d) ≤ d
first_low p w k d labels = omega (arith, first_from_lem p 0 (labels_in w 3 labels k d), labels_long w 3 labels k d)

-- and so is the number of one that decides
module _ (w k d : ℕ) (labels : List ℕ) (x t : ℕ) {l : ℕ} where
  pub inside_low : Inside l ≡ judged x t (labels_in w 3 labels k d) → l ≤ d
  inside_low told = omega (arith, judged_tells x t (labels_in w 3 labels k d) told, first_low (inside x t) w k d labels)

  pub outside_low : Outside l ≡ judged x t (labels_in w 3 labels k d) → l ≤ d
  outside_low told = omega (arith, judged_tells x t (labels_in w 3 labels k d) told, first_low (outside x t) w k d labels)

module _ {w k d t : ℕ} {groups levels starts children labels : List ℕ} {marks : ℕ} (F : Fit w k d t groups levels starts children labels marks)
    (x : ℕ) (m : List ℕ) (r : Asked) where
  abbrev I : Index
  I = groups_in w k d groups levels starts children labels

  abbrev Says : Bool → ℕ → ℕ → Type 0
  Says says reason deciding = r ≡ record { says = says; reason = reason; deciding = deciding; opened = 0 }

  pub rule_1 : Says true 1 0 → x ≡ t → answer_by r m ≡ between I x t m
  rule_1 s e = ap (λ (q : Asked). answer_by q m) s ∙ rw (eq-eqb x t e) refl

  -- x and t differ, and their levels are read
  module _ (apart : x ≢ t) (x_low : x < k) (a b : ℕ) (level : a ≡ num_at w levels x) (above : b ≡ num_at w levels t) where
    three : rule3 I x t ≡ leb a b
    three = rw (numbers_at w levels k x x_low, numbers_at w levels k t F.target_low, ← level, ← above) refl

    -- a level that is not above excludes rule 2
    pub rule_3 : Says false 3 0 → a ≤ b → answer_by r m ≡ between I x t m
    rule_3 s h =
        let holds : rule3 I x t ≡ true = three ∙ le-leb a b h in
        let not_two : rule2 I x t ≡ false = is_false (rule2 I x t) (λ y. clash holds (F.sure.not_3 x x_low y apart)) in
        ap (λ (q : Asked). answer_by q m) s ∙ rw (ne_eqb x t apart, not_two, holds) refl

    -- the labellings judge
    module _ (lower : b < a) where
      pub rule_2 : {l : ℕ} → Says true 2 l → Inside l ≡ judged x t (labels_in w 3 labels k d) → answer_by r m ≡ between I x t m
      rule_2 {l} s told =
          let first = judged_tells x t (labels_in w 3 labels k d) told in
          let holds : rule2 I x t ≡ true = first_given (inside x t) (labels_in w 3 labels k d) ∙ rw (← first.1) (lt-ltb 0 l first.0) in
          ap (λ (q : Asked). answer_by q m) s ∙ rw (ne_eqb x t apart, holds, ← first.1) refl

      -- what 4 rules out, 2 does not say yes of
      pub rule_4 : {l : ℕ} → Says false 4 l → Outside l ≡ judged x t (labels_in w 3 labels k d) → answer_by r m ≡ between I x t m
      rule_4 {l} s told =
          let first = judged_tells x t (labels_in w 3 labels k d) told in
          let holds : rule4 I x t ≡ true = first_given (outside x t) (labels_in w 3 labels k d) ∙ rw (← first.1) (lt-ltb 0 l first.0) in
          let not_two : rule2 I x t ≡ false = is_false (rule2 I x t) (λ y. clash holds (F.sure.not_4 x x_low y)) in
          ap (λ (q : Asked). answer_by q m) s ∙ rw (ne_eqb x t apart, not_two, three, lt-leb a b lower, holds, ← first.1) refl

      module _ (told : Neither ≡ judged x t (labels_in w 3 labels k d)) where
        neither : (first_labelling (inside x t) (labels_in w 3 labels k d) ≡ 0) × (first_labelling (outside x t) (labels_in w 3 labels k d) ≡ 0)
        neither = judged_tells x t (labels_in w 3 labels k d) told

        not_two : rule2 I x t ≡ false
        not_two = first_given (inside x t) (labels_in w 3 labels k d) ∙ ap (ltb 0) neither.0

        not_four : rule4 I x t ≡ false
        not_four = first_given (outside x t) (labels_in w 3 labels k d) ∙ ap (ltb 0) neither.1

        module _ (f : Bool) (l n : ℕ) (m' : List ℕ) (e : walked f l n m' ≡ open_at (net_in w k d t groups levels starts children labels) (a + 1) x m) where
          walked_is : walked f l n m' ≡ walk I t x m
          unfolding walk net_in
          walked_is = e ∙ ap (λ (L : ℕ). open_at (net_of I t) L x m) (add-one a ∙ ap suc (level ∙ sym (numbers_at w levels k x x_low)))

          pub rule_5_6 : r ≡ record { says = f; reason = cond f 5 6; deciding = l; opened = n } → answer_by r m' ≡ between I x t m
          rule_5_6 s =
              ap (λ (q : Asked). answer_by q m') s
              ∙ rw (ne_eqb x t apart, not_two, three, lt-leb a b lower, not_four) (ap by_walk walked_is)

-- the walk opens no more groups than there are marks, and is ended by one of the labellings
module _ {w k d t : ℕ} {groups levels starts children labels : List ℕ} {marks : ℕ} (F : Fit w k d t groups levels starts children labels marks)
    (L x : ℕ) (m : List ℕ) (f : Bool) (l n : ℕ) (m' : List ℕ) (e : walked f l n m' ≡ open_at (net_in w k d t groups levels starts children labels) L x m) where
  pub walk_deciding : l ≤ most_labellings
  unfolding net_in
  walk_deciding =
      omega (
        arith,
        F.labelled.labellings_few,
        ap (λ (a : Walked). a.deciding) e,
        open_deciding (net_in w k d t groups levels starts children labels) d (λ h. first_low (inside h t) w k d labels) L x m,
      )

  pub walk_opened : x < k → length m ≡ marks → get_or m (num_at w groups x) 0 ≢ 1 → n ≤ marks
  walk_opened h long free =
      let G : Gains m (walked f l n m') =
      rw e (open_gains (net_in w k d t groups levels starts children labels) (net_within F) L x m long h (rw (← net_spot F x h) (ne_eqb _ _ free))) in
      omega (arith, G.gain, G.long, ones_low m')

-- and it opens x
pub walk_opens :
    {w k d t : ℕ} {groups levels starts children labels : List ℕ} {marks : ℕ} (F : Fit w k d t groups levels starts children labels marks)
    (L x : ℕ) (m : List ℕ) (f : Bool) (l n : ℕ) (m' : List ℕ)
    → walked f l n m' ≡ open_at (net_in w k d t groups levels starts children labels) (L + 1) x m → 1 ≤ n
unfolding open_at
walk_opens F L x m f l n m' e = omega (arith, ap (λ (a : Walked). a.opened) (rw add-one at e))
