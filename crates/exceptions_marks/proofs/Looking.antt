-- The exceptions of x marked rank by rank, where what x reaches is marked 1 and every other group 0. Those found so far are marked 2 and no other mark changes; so at
-- each rank the mark tells whether x reaches the group that stands there, and at the end 2 marks the exceptions.
use mathlib.Core.Bool.{Bool, true, false, not, ◌&&◌, cond, and-false, and-true, or-false}
use mathlib.Core.Path.{◌≡◌, refl, sym, ap, ◌∙◌}
use mathlib.Core.List.{List, [], ◌∷◌, ◌++◌}
use Prim.Native.Nat.{ℕ, suc, ◌+◌, ◌<◌, ◌≤◌}
use native.Mathlib.Decide.{ℕ_discrete}
use native.Mathlib.Omega.{arith}
use lib.Dec.{eqb}
use lib.ListN.{length, get_or, set, drop, length-set, length-append}
use lib.Seq.{get_or-set_same, get_or-set_other, drop-set-lt}
use borrow.Author.Tests.{ne_eqb}
use Rattle.lineage.specs.Lists.{among}
use Rattle.lineage.specs.Graph.{leads}
use Rattle.lineage.specs.Labels.{Labelling}
use Rattle.lineage.specs.Index.{Index}
use Rattle.laws.specs.Sound.{SoundLabelling, Sound}
use Rattle.laws.proofs.Tests.{and_left}
use Rattle.laws.proofs.Lists.{among_append, here, in_right}
use Rattle.laws.proofs.Grouped.{group_name, place_one}
use Rattle.laws_answers.specs.Answers.{Member}
use Rattle.laws_answers.proofs.Members.{every_member}
use Rattle.laws_exceptions.specs.Exceptions.{contains, is_exception, exceptions_of}
use Rattle.laws_exceptions.proofs.Found.{found_to, found_nothing, found_is, found_more, found_over, found_all, found_count}
use Rattle.exceptions_marks.specs.Marks.{mark_of, Reaching, Excepting}

-- i ranks behind `from` are passed, and `count` exceptions found
pub record Looking (I : Index) (l : Labelling) (x from i count : ℕ) (before marks : List ℕ) : Type 0 where
  pub long : length marks ≡ length before
  pub past : drop (length I.names) marks ≡ drop (length I.names) before
  pub counted : count ≡ length (found_to I l x from i)
  pub told : (q : ℕ) → q < length I.children → mark_of I marks q ≡ cond (among q (found_to I l x from i)) 2 (mark_of I before q)

pub looking_none : (I : Index) (l : Labelling) (x from : ℕ) (marks : List ℕ) → Looking I l x from 0 0 marks marks
looking_none I l x from marks = record {
  long = refl;
  past = refl;
  counted = rw (found_nothing I l x from);
  told = λ q h. rw (found_nothing I l x from);
}

-- whether the group at hand is an exception, as its mark and containment tell: found already, reached, or neither
told_so : (a led c : Bool) → (a ≡ true → (c && not led) ≡ true) → cond (eqb (cond a 2 (cond led 1 0)) 1) false c ≡ (c && not led)
told_so true led c h = and_left c (not led) (h refl) ∙ sym (h refl)
told_so false true c h = sym (and-false c)
told_so false false c h = sym (and-true c)

-- and whether it is marked 2 at the end
told_last : (a led : Bool) → eqb (cond a 2 (cond led 1 0)) 2 ≡ a
told_last true led = refl
told_last false true = refl
told_last false false = refl

module _
    {I : Index} (S : Sound I) {l : Labelling} (m : Member l I.labels) {x from i count : ℕ} {before marks : List ℕ}
    (R : Reaching I x before) (room : length I.names ≤ length before) (K : Looking I l x from i count before marks)
  where
    -- the group at the next rank, its name, and what was told of it
    module _
        {y name : ℕ} (h : from + i < length I.children) (is : y ≡ get_or l.by_rank (from + i) 0) (named : name ≡ get_or I.groups y 0)
        {r : Bool} (test : r ≡ cond (eqb (get_or marks name 0) 1) false (contains I x y))
      where
        low : y < length I.children
        low = rw is ((every_member (SoundLabelling I.children) S.labelled m).at_low (from + i) h)

        pub looked : r ≡ is_exception I x y
        unfolding is_exception
        looked =
            test
            ∙ rw (named, K.told y low, R.told y low)
            (told_so (among y (found_to I l x from i)) (leads I.children (get_or I.levels x 0) x y) (contains I x y) (found_is I l x from i y))

        name_low : name < length I.names
        name_low = omega (arith, (group_name S.condensed y low).0)

        pub looking_over : r ≡ false → Looking I l x from (i + 1) count before marks
        looking_over f =
            let same = found_over I S m x from i y h is (sym looked ∙ f) in
            record {
              long = K.long;
              past = K.past;
              counted = K.counted ∙ ap length (sym same);
              told = λ q b. K.told q b ∙ ap (λ (z : List ℕ). cond (among q z) 2 (mark_of I before q)) (sym same);
            }

        pub looking_more : r ≡ true → Looking I l x from (i + 1) (count + 1) before (set marks name 2)
        looking_more t =
            let more = found_more I S m x from i y h is (sym looked ∙ t) in
            record {
              long = length-set marks name 2 ∙ K.long;
              past = drop-set-lt (length I.names) marks name 2 name_low ∙ K.past;
              counted = omega (arith, K.counted, ap length more, length-append (found_to I l x from i) (y ∷ []));
              told = λ q b. rw more (marks_more q b);
            }
          where
            marks_more : (q : ℕ) → q < length I.children → mark_of I (set marks name 2) q ≡ cond (among q (found_to I l x from i ++ (y ∷ []))) 2 (mark_of I before q)
            marks_more q b =
                elim (ℕ_discrete q y) [
                  | yes e ↦
                      rw (e, in_right y (found_to I l x from i) (y ∷ []) (here y []), ← named) (get_or-set_same marks name 2 0 (omega (arith, name_low, K.long)))
                  | no e ↦
                      get_or-set_other marks name (get_or I.groups q 0) 2 0 (λ s. e (place_one S.condensed q y b low (s ∙ named)))
                      ∙ K.told q b
                      ∙ rw (among_append q (found_to I l x from i) (y ∷ []), ne_eqb q y e, or-false (among q (found_to I l x from i)))
                ]

    -- all ranks from s(x) to e(x) are passed
    module _ (b : x < length I.children) (starts : suc from ≡ get_or l.s x 0) (ends : from + i ≡ get_or l.e x 0) where
      pub looking_count : count ≡ length (exceptions_of I x)
      looking_count = K.counted ∙ found_count I S m x from b i starts ends

      pub looking_all : Excepting I x before marks
      looking_all = record {
        long = K.long;
        past = K.past;
        marked = record {
          told = λ q h.
              rw (K.told q h, found_all I S m x from b i starts ends q h, R.told q h)
              (told_last (is_exception I x q) (leads I.children (get_or I.levels x 0) x q));
        };
      }
