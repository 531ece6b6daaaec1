-- The rules 1 to 4 over one labelling in pairs, each from what the code has read by then. A pair has no m but s; so where t's e, which is not below its s, lies
-- outside x's interval, that interval does not hold t's either, and rule 4 holds.
use mathlib.Core.Bool.{Bool, true, false, not, ◌&&◌}
use mathlib.Core.Logic.{◌≢◌}
use mathlib.Core.Path.{◌≡◌, refl, ap, ◌∙◌}
use mathlib.Core.List.{List, [], ◌∷◌}
use Prim.Native.Nat.{ℕ, ◌+◌, ◌*◌, ◌≤◌, ◌<◌}
use native.Mathlib.Omega.{arith}
use native.Mathlib.Nat.{add-zero}
use lib.Dec.{eqb, leb}
use lib.ListN.{get_or}
use borrow.Author.Tests.{eq-eqb, ne_eqb, le-leb, lt-leb, leb-true}
use Rattle.lineage.specs.Labels.{Labelling}
use Rattle.lineage.specs.Numbers.{num_at, numbers}
use Rattle.lineage.specs.Index.{Index}
use Rattle.lineage.specs.Question.{inside, outside, rule3, between}
use Rattle.laws.proofs.Tests.{and_both, both, clash}
use Rattle.numbers.specs.Regions.{Part}
use Rattle.numbers.proofs.Numbers.{numbers_at}
use Rattle.stored.specs.Sections.{tuples_of, labels_in}
use Rattle.stored.proofs.Sections.{s_at, m_at, e_at}
use Rattle.hierarchy_labels.specs.Pairs.{by_reason, Pairs, Decides}
use Rattle.hierarchy_labels.specs.Turned.{labelling_of}

-- an index with one labelling
module _ (I : Index) (l : Labelling) (one : I.labels ≡ l ∷ []) (x t : ℕ) (marks : List ℕ) where
  by_1 : eqb x t ≡ true → between I x t marks ≡ by_reason 1 marks
  by_1 same = rw same refl

  by_2 : eqb x t ≡ false → inside x t l ≡ true → between I x t marks ≡ by_reason 2 marks
  by_2 other i = rw (other, one, i) refl

  by_3 : eqb x t ≡ false → inside x t l ≡ false → rule3 I x t ≡ true → between I x t marks ≡ by_reason 3 marks
  by_3 other i level = rw (other, one, i, level) refl

  by_4 : eqb x t ≡ false → inside x t l ≡ false → rule3 I x t ≡ false → outside x t l ≡ true → between I x t marks ≡ by_reason 4 marks
  by_4 other i level o = rw (other, one, i, level, o) refl

-- labels of one labelling
pub labels_one : (w z : ℕ) (labels : List ℕ) (k : ℕ) → labels_in w z labels k 1 ≡ labelling_of w z labels k ∷ []
unfolding labels_in
labels_one w z labels k = refl

module _ {w k x t : ℕ} {levels labels : List ℕ} (P : Pairs w k x t levels labels) where
  abbrev l : Labelling
  l = labelling_of w 2 labels k

  abbrev pairs : List ℕ
  pairs = tuples_of w 2 labels k 0

  s_of : (p : ℕ) → p < k → get_or l.s p 0 ≡ num_at w pairs (2 * p)
  s_of p h = s_at w 2 pairs _ k p h

  -- m is s
  m_of : (p : ℕ) → p < k → get_or l.m p 0 ≡ num_at w pairs (2 * p)
  m_of p h = m_at w 2 pairs _ k p h ∙ ap (num_at w pairs) (add-zero (2 * p))

  e_of : (p : ℕ) → p < k → get_or l.e p 0 ≡ num_at w pairs (2 * p + 1)
  e_of p h = e_at w 2 pairs _ k p h

  -- where rule 2 fails, rule 4 holds
  outside_is : inside x t l ≡ false → outside x t l ≡ true
  outside_is none = at (leb (get_or l.s x 0) (get_or l.s t 0) && leb (get_or l.e t 0) (get_or l.e x 0)) refl
    where
      at : (b : Bool) → (leb (get_or l.s x 0) (get_or l.s t 0) && leb (get_or l.e t 0) (get_or l.e x 0)) ≡ b → not b ≡ true
      at false e = refl
      at true e =
          let (s, top) = both (leb (get_or l.s x 0) (get_or l.s t 0)) (leb (get_or l.e t 0) (get_or l.e x 0)) e in
          let low : get_or l.m x 0 ≤ get_or l.e t 0 =
          omega (arith, leb-true (get_or l.s x 0) (get_or l.s t 0) s, s_of x P.source_low, m_of x P.source_low, s_of t P.target_low, e_of t P.target_low, P.ordered) in
          clash (and_both (le-leb (get_or l.m x 0) (get_or l.e t 0) low) top) none

  pub decides_1 : x ≡ t → Decides w k x t levels labels 1
  decides_1 same I levelled labelled marks = by_1 I l (labelled ∙ labels_one w 2 labels k) x t marks (eq-eqb x t same)

  -- what is read of the pairs: s of x, e of t and e of x
  module _ (other : x ≢ t) {r : List ℕ} (R : Part labels (w * (0 * (3 * k))) (w * (2 * k)) r)
      {s e top : ℕ} (s_is : s ≡ num_at w r (2 * x)) (e_is : e ≡ num_at w r (2 * t + 1)) (top_is : top ≡ num_at w r (2 * x + 1)) where
    whole : r ≡ pairs
    unfolding tuples_of
    whole = R.is

    inside_is : inside x t l ≡ (leb s e && leb e top)
    inside_is = rw (m_of x P.source_low, e_of t P.target_low, e_of x P.source_low, s_is, e_is, top_is, whole) refl

    pub decides_2 : (leb s e && leb e top) ≡ true → Decides w k x t levels labels 2
    decides_2 i I levelled labelled marks = by_2 I l (labelled ∙ labels_one w 2 labels k) x t marks (ne_eqb x t other) (inside_is ∙ i)

    -- and of the levels
    module _ (out : (leb s e && leb e top) ≡ false) {a b : ℕ} (a-is : a ≡ num_at w levels x) (b-is : b ≡ num_at w levels t) where
      level_is : (I : Index) → I.levels ≡ numbers w levels k → rule3 I x t ≡ leb a b
      level_is I e = rw (e, numbers_at w levels k x P.source_low, numbers_at w levels k t P.target_low, a-is, b-is) refl

      pub decides_3 : a ≤ b → Decides w k x t levels labels 3
      decides_3 h I levelled labelled marks =
          by_3 I l (labelled ∙ labels_one w 2 labels k) x t marks (ne_eqb x t other) (inside_is ∙ out) (level_is I levelled ∙ le-leb a b h)

      pub decides_4 : b < a → Decides w k x t levels labels 4
      decides_4 h I levelled labelled marks =
          by_4 I l (labelled ∙ labels_one w 2 labels k) x t marks (ne_eqb x t other) (inside_is ∙ out) (level_is I levelled ∙ lt-leb a b h) (outside_is (inside_is ∙ out))
