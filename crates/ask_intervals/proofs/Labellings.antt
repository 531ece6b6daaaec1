-- The labellings of a labels section, one after the other. Each has its triples within the labels; the bounds that are read off them decide as its intervals do;
-- and the first labelling that decides is found by going through them.
use mathlib.Core.Path.{◌≡◌, refl, sym, ap, ◌∙◌}
use mathlib.Core.Bool.{Bool, true, false, not, ◌&&◌, cond, and-false}
use mathlib.Core.Logic.{◌≢◌}
use mathlib.Core.List.{List, ◌∷◌}
use Prim.Native.Nat.{ℕ, zero, suc, ◌+◌, ◌*◌, ◌≤◌, ◌<◌}
use native.Mathlib.Omega.{arith}
use native.Mathlib.Numerals.{add-one}
use native.Mathlib.Nat.{mul-le-mul_left}
use borrow.Author.Count.{below_more}
use borrow.Author.Tests.{not-true, not-false}
use lib.Dec.{eqb, leb}
use lib.ListN.{length, drop, drop_of_length-le}
use lib.Seq.{drop-cons}
use Rattle.lineage.specs.Labels.{Labelling}
use Rattle.lineage.specs.Numbers.{num_at}
use Rattle.lineage.specs.Question.{inside, outside}
use Rattle.laws.proofs.Tests.{and_both}
use Rattle.laws.proofs.Lists.{table_at}
use Rattle.numbers.specs.Regions.{Part}
use Rattle.stored.specs.Sections.{labelling_in, tuples_of, places_of, labels_in}
use Rattle.stored.proofs.Sections.{s_at, m_at, e_at, labels_long}
use Rattle.ask_intervals.specs.declared.Judged.TheVariants.{Inside, Outside, Neither}
use Rattle.ask_intervals.specs.Intervals.{judged_by, judged_from, judged, undecided_by}

-- the triple of x lies within the triples of a labelling
pub in_triples : (w k x : ℕ) (labels triples : List ℕ) {at : ℕ} → Part labels at (w * (3 * k)) triples → x < k → w * (3 * x + 3) ≤ length triples
in_triples w k x labels triples P h = let own : 3 * x + 3 ≤ 3 * k = omega arith in omega (arith, mul-le-mul_left w own, P.long)

-- where labels are in triples, so are the numbers by place of a labelling
pub own_triples : (w k l : ℕ) {z : ℕ} {labels triples : List ℕ} → z ≡ 3 → Part labels (w * (l * ((z + 1) * k))) (w * (z * k)) triples
    → Part labels (w * (l * (4 * k))) (w * (3 * k)) triples
own_triples w k l e P = rw e at P

-- one bound more decides nothing
pub one_more : (p : ℕ → Bool) (b : ℕ) (r : Bool) → ((j : ℕ) → j < b → p j ≡ true) → r ≡ p b → r ≡ true → (j : ℕ) → j < b + 1 → p j ≡ true
one_more p b r below e h = below_more (λ j. p j ≡ true) b below (cc)

-- The three bounds: a, the upper one holds; c, the inner lower one does; s, the outer lower one does. The first that decides tells what the intervals do.
module _ (a c s : Bool) where
  abbrev still : ℕ → Bool
  still b = cond (eqb b 0) a (cond (eqb b 1) (not c) s)

  hits : (b : ℕ) → b ≡ 1 → ((j : ℕ) → j < b → still j ≡ true) → still b ≡ false → (c && a) ≡ true
  hits zero e below f = absurd (omega arith)
  hits (suc zero) e below f = and_both (not-false c f) (below 0 (omega arith))
  hits (suc (suc b)) e below f = absurd (omega arith)

  cuts : (b : ℕ) → b < 3 → b ≢ 1 → ((j : ℕ) → j < b → still j ≡ true) → still b ≡ false → ((c && a) ≡ false) × (not (s && a) ≡ true)
  cuts zero h n below f = rw f (and-false c, ap not (and-false s))
  cuts (suc zero) h n below f = absurd (n refl)
  cuts (suc (suc zero)) h n below f = rw (f, not-true c (below 1 (omega arith))) (refl, refl)
  cuts (suc (suc (suc b))) h n below f = absurd (omega arith)

  leaves : ((j : ℕ) → j < 3 → still j ≡ true) → ((c && a) ≡ false) × (not (s && a) ≡ false)
  leaves h = rw (h 0 (omega arith), not-true c (h 1 (omega arith)), h 2 (omega arith)) (refl, refl)

module _ (w k : ℕ) (labels : List ℕ) where
  -- labelling l of the labels
  abbrev own : ℕ → Labelling
  own l = labelling_in w 3 (tuples_of w 3 labels k l) (places_of w 3 labels k l) k

  module _ (l x t : ℕ) (triples : List ℕ) (x_low : x < k) (t-low : t < k) (P : Part labels (w * (l * (4 * k))) (w * (3 * k)) triples) where
    read : triples ≡ tuples_of w 3 labels k l
    unfolding tuples_of
    read = P.is

    -- its three bounds
    abbrev upper : Bool
    upper = leb (num_at w triples (3 * t + 2)) (num_at w triples (3 * x + 2))

    abbrev inner : Bool
    inner = leb (num_at w triples (3 * x + 1)) (num_at w triples (3 * t + 2))

    abbrev outer : Bool
    outer = leb (num_at w triples (3 * x)) (num_at w triples (3 * t))

    inside_is : inside x t (own l) ≡ (inner && upper)
    inside_is = rw (read, m_at _ _ _ _ _ x x_low, e_at _ _ _ _ _ t t-low, e_at _ _ _ _ _ x x_low) refl

    outside_is : outside x t (own l) ≡ not (outer && upper)
    outside_is = rw (read, s_at _ _ _ _ _ x x_low, s_at _ _ _ _ _ t t-low, e_at _ _ _ _ _ t t-low, e_at _ _ _ _ _ x x_low) refl

    -- bound b is the first that decides, as was read
    module _ (b : ℕ) (r : Bool) (below : (j : ℕ) → j < b → undecided_by w triples x t j ≡ true) (is : r ≡ undecided_by w triples x t b) (f : r ≡ false) where
      pub is_inside : b ≡ 1 → inside x t (own l) ≡ true
      is_inside e = inside_is ∙ hits upper inner outer b e below (sym is ∙ f)

      pub is_outside : b < 3 → b ≢ 1 → (inside x t (own l) ≡ false) × (outside x t (own l) ≡ true)
      is_outside h n = let d = cuts upper inner outer b h n below (sym is ∙ f) in (inside_is ∙ d.0, outside_is ∙ d.1)

    -- no bound decides
    pub is_neither : ((j : ℕ) → j < 3 → undecided_by w triples x t j ≡ true) → (inside x t (own l) ≡ false) × (outside x t (own l) ≡ false)
    is_neither h = let d = leaves upper inner outer h in (inside_is ∙ d.0, outside_is ∙ d.1)

  -- none of the first l labellings of d decides
  abbrev pub Judging : (x t d l : ℕ) → Type 0
  Judging x t d l = judged_from (l + 1) x t (drop l (labels_in w 3 labels k d)) ≡ judged x t (labels_in w 3 labels k d)

  module _ (x t d : ℕ) where
    module _ (l : ℕ) (J : Judging x t d l) where
      ahead : l < d → drop l (labels_in w 3 labels k d) ≡ own l ∷ drop (l + 1) (labels_in w 3 labels k d)
      unfolding labels_in
      ahead h =
          rw (add-one l)
          (drop-cons (labels_in w 3 labels k d) l (own l) (omega (arith, labels_long w 3 labels k d))
          ∙ ap (◌∷ drop (suc l) (labels_in w 3 labels k d)) (table_at own d l (own l) h))

      turned :
          l < d
          → judged_by (inside x t (own l)) (outside x t (own l)) (l + 1) (judged_from (l + 1 + 1) x t (drop (l + 1) (labels_in w 3 labels k d)))
          ≡ judged x t (labels_in w 3 labels k d)
      turned h = simp add-one (simp add-one at (rw (ahead h) at J))

      pub judging_more : l < d → (inside x t (own l) ≡ false) × (outside x t (own l) ≡ false) → Judging x t d (l + 1)
      judging_more h e = rw (e.0, e.1) at (turned h)

      pub judging_inside : l < d → inside x t (own l) ≡ true → Inside (l + 1) ≡ judged x t (labels_in w 3 labels k d)
      judging_inside h e = rw e at (turned h)

      pub judging_outside : l < d → (inside x t (own l) ≡ false) × (outside x t (own l) ≡ true) → Outside (l + 1) ≡ judged x t (labels_in w 3 labels k d)
      judging_outside h e = rw (e.0, e.1) at (turned h)

      pub judging_all : d ≤ l → Neither ≡ judged x t (labels_in w 3 labels k d)
      judging_all h =
          let high : length (labels_in w 3 labels k d) ≤ l = omega (arith, labels_long w 3 labels k d) in
          ap (judged_from (l + 1) x t) (sym (drop_of_length-le (labels_in w 3 labels k d) high)) ∙ J
