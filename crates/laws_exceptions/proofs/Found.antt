-- The exceptions of x, found by ranks. All that x contains has its rank from s(x) to e(x) in any labelling, so those of its exceptions that stand at these ranks
-- are all of them; and each stands at one rank, so they are as many as in its list.
use mathlib.Core.Bool.{Bool, true, false}
use mathlib.Core.Path.{◌≡◌, refl, sym, ap, ◌∙◌}
use mathlib.Core.List.{List, [], ◌∷◌, ◌++◌, append-nil}
use Prim.Native.Nat.{ℕ, suc, ◌+◌, ◌-◌, ◌<◌, ◌≤◌}
use native.Mathlib.Omega.{arith}
use lib.ListN.{length, get_or}
use Rattle.lineage.specs.Lists.{among, those, position, part}
use Rattle.lineage.specs.Labels.{Labelling}
use Rattle.lineage.specs.Index.{Index}
use Rattle.laws.specs.Rising.{Distinct}
use Rattle.laws.specs.Sound.{SoundLabelling, Sound}
use Rattle.laws.proofs.Tests.{clash, is_false}
use Rattle.laws.proofs.Lists.{those_append, those_yes, those_no, those_pass, those_keep}
use Rattle.laws.proofs.Positions.{position_low, at_position, in_get_d}
use Rattle.laws.proofs.Parts.{part_length, part_more, part_at}
use Rattle.laws.proofs.Rising.{rises_distinct, counting_distinct, pigeonhole}
use Rattle.laws.proofs.Inverse.{at_e, e_most}
use Rattle.laws_same.proofs.Lineage.{tests_same}
use Rattle.laws_answers.specs.Answers.{Member}
use Rattle.laws_answers.proofs.Members.{every_member}
use Rattle.laws_exceptions.specs.Exceptions.{is_exception, exceptions_of}
use Rattle.laws_exceptions.proofs.Exceptions.{exceptions_rise, listed_exactly, exception_exactly}
use Rattle.laws_exceptions.proofs.Ranks.{contained_ranks}

-- a filter of a list without repeats has none
distinct_those : (p : ℕ → Bool) (xs : List ℕ) → Distinct xs → Distinct (those p xs)
distinct_those p [] d = tt
distinct_those p (x ∷ xs) d = at (p x) refl (distinct_those p xs d.1)
  where
    at : (t : Bool) → p x ≡ t → Distinct (those p xs) → Distinct (those p (x ∷ xs))
    at true e ih = rw (those_yes p x xs e) (is_false (among x (those p xs)) (λ i. clash (those_pass p x xs i).1 d.0), ih)
    at false e ih = rw (those_no p x xs e) ih

-- those that stand at the i ranks behind `from` of a labelling
unfoldable pub found_to : Index → Labelling → (x from i : ℕ) → List ℕ
unfolding is_exception part
found_to I l x from i = those (is_exception I x) (part l.by_rank from i)

pub found_nothing : (I : Index) (l : Labelling) (x from : ℕ) → found_to I l x from 0 ≡ []
unfolding found_to
found_nothing I l x from = refl

-- what is found is an exception
pub found_is : (I : Index) (l : Labelling) (x from i q : ℕ) → among q (found_to I l x from i) ≡ true → is_exception I x q ≡ true
unfolding found_to
found_is I l x from i q j = (those_pass (is_exception I x) q (part l.by_rank from i) j).0

module _ (I : Index) (S : Sound I) {l : Labelling} (m : Member l I.labels) (x from : ℕ) where
  abbrev L : SoundLabelling I.children l
  L = every_member (SoundLabelling I.children) S.labelled m

  abbrev k : ℕ
  k = length I.children

  abbrev found : ℕ → List ℕ
  found i = found_to I l x from i

  -- one rank more
  module _ (i y : ℕ) (h : from + i < k) (is : y ≡ get_or l.by_rank (from + i) 0) where
    longer : part l.by_rank from (i + 1) ≡ part l.by_rank from i ++ (y ∷ [])
    longer = part_more l.by_rank from i 0 (omega (arith, L.at_long)) ∙ ap (λ (z : ℕ). part l.by_rank from i ++ (z ∷ [])) (sym is)

    pub found_more : is_exception I x y ≡ true → found (i + 1) ≡ found i ++ (y ∷ [])
    unfolding found_to
    found_more t =
        ap (those (is_exception I x)) longer
        ∙ those_append (is_exception I x) (part l.by_rank from i) (y ∷ [])
        ∙ ap (λ (z : List ℕ). found i ++ z) (those_yes (is_exception I x) y [] t)

    pub found_over : is_exception I x y ≡ false → found (i + 1) ≡ found i
    unfolding found_to
    found_over f =
        ap (those (is_exception I x)) longer
        ∙ those_append (is_exception I x) (part l.by_rank from i) (y ∷ [])
        ∙ ap (λ (z : List ℕ). found i ++ z) (those_no (is_exception I x) y [] f)
        ∙ append-nil (found i)

  -- all ranks from s(x) to e(x)
  module _ (b : x < k) (i : ℕ) (low : suc from ≡ get_or l.s x 0) (high : from + i ≡ get_or l.e x 0) where
    abbrev ranks : List ℕ
    ranks = part l.by_rank from i

    within : from + i ≤ k
    within = omega (arith, e_most L x b)

    long : length ranks ≡ i
    long = part_length l.by_rank from i (omega (arith, within, L.at_long))

    -- each place that stands there, by its position
    at_rank : (j : ℕ) → j < length ranks → (get_or ranks j 0 < k) × (get_or l.e (get_or ranks j 0) 0 ≡ suc from + j)
    at_rank j h =
        let in_all : from + j < k = omega (arith, long, within) in
        rw (← part_at l.by_rank from i j (omega (arith, long))) (L.at_low (from + j) in_all, L.e_at (from + j) in_all ∙ omega arith)

    -- an exception stands at its rank
    stands : (q : ℕ) → q < k → is_exception I x q ≡ true → among q ranks ≡ true
    stands q h t =
        let (above, below) = contained_ranks I S m x q h ((exception_exactly I S x q b).0 t).0 in
        let r : ℕ = get_or l.e q 0 - 1 in
        let here : from + (r - from) ≡ r = omega arith in
        let at : get_or ranks (r - from) 0 ≡ q =
        sym (part_at l.by_rank from i (r - from) (omega arith)) ∙ ap (λ (z : ℕ). get_or l.by_rank z 0) here ∙ at_e L q r h (omega arith) in
        rw at at (in_get_d ranks (r - from) (omega (arith, long)))

    pub found_all : (q : ℕ) → q < k → among q (found i) ≡ is_exception I x q
    unfolding found_to
    found_all q h =
        tests_same (among q (found i)) (is_exception I x q)
        (λ j. (those_pass (is_exception I x) q ranks j).0, λ t. those_keep (is_exception I x) q ranks t (stands q h t))

    -- places by rank have no repeats, so what is found is as long as the list
    once : Distinct (found i)
    unfolding found_to
    once = distinct_those (is_exception I x) ranks (counting_distinct (λ p. get_or l.e p 0) ranks (suc from) (λ j h. (at_rank j h).1))

    pub found_count : length (found i) ≡ length (exceptions_of I x)
    unfolding found_to
    found_count =
        omega (
          arith,
          pigeonhole (found i) (exceptions_of I x) once
              (λ q j.
              let (t, at) = those_pass (is_exception I x) q ranks j in
              let low : q < k = rw (at_position q ranks at) at (at_rank (position q ranks) (position_low q ranks at)).0 in
              (listed_exactly I x q).1 (omega (arith, S.condensed.children_long), t)),
          pigeonhole (exceptions_of I x) (found i) (rises_distinct (exceptions_of I x) (exceptions_rise I x))
              (λ q j. let (h, t) = (listed_exactly I x q).0 j in those_keep (is_exception I x) q ranks t (stands q (omega (arith, S.condensed.children_long)) t)),
        )
