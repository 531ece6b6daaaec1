-- In a plain hierarchy outer containment holds exactly where a path leads. A path needs it in every index; and where s is m the target's rank, not
-- below its s, then lies in the source's inner interval, which holds only what is below.
use mathlib.Core.Bool.{true, false, ◌&&◌}
use mathlib.Core.Logic.Iff
use mathlib.Core.Logic.{◌↔◌}
use mathlib.Core.Path.{◌≡◌, refl}
use mathlib.Core.List.{List, []}
use Prim.Native.Nat.{ℕ, ◌<◌, ◌≤◌}
use native.Mathlib.Omega.{arith}
use lib.Dec.{leb}
use lib.ListN.{length, get_or}
use lib.Seq.{ext_get_or}
use borrow.Author.Tests.{leb-true, le-leb, not-false}
use Rattle.lineage.specs.Lists.{Every}
use Rattle.lineage.specs.Graph.{Graph, Ends, Reaches}
use Rattle.lineage.specs.Labels.{Order, Labelling}
use Rattle.lineage.specs.Index.{Index, index_of, Made}
use Rattle.lineage.specs.Question.{outside, place_in}
use Rattle.lineage.specs.Sound.{is_tree}
use Rattle.laws.specs.Leads.{Down}
use Rattle.laws.specs.Sound.{SoundLabelling, Sound}
use Rattle.laws.proofs.Tests.{and_left, and_right}
use Rattle.laws.proofs.Positions.{least_below}
use Rattle.laws.proofs.Grouped.{place_low, child_in}
use Rattle.laws.proofs.Sound.{sound_exactly, made_long, made_paths}
use Rattle.laws_answers.specs.Answers.{Member}
use Rattle.laws_answers.proofs.Members.{every_member}
use Rattle.laws_answers.proofs.Intervals.{outer_needed, inner_below}
use Rattle.laws_hierarchy.specs.Hierarchy.{OneParent, Contained}
use Rattle.laws_hierarchy.proofs.Parents.{tree_exactly}
use Rattle.laws_hierarchy.proofs.Blocks.{inner_outer}

-- outer containment is what rule 4's test finds to fail
pub contained_test : (l : Labelling) (x t : ℕ) → (outside x t l ≡ false) ↔ Contained l x t
contained_test l x t = (λ o. of (not-false (leb (s x) (s t) && leb (e t) (e x)) o), λ c. rw (le-leb (s x) (s t) c.0, le-leb (e t) (e x) c.1))
  where
    s : ℕ → ℕ
    s p = get_or l.s p 0

    e : ℕ → ℕ
    e p = get_or l.e p 0

    of : (leb (s x) (s t) && leb (e t) (e x)) ≡ true → Contained l x t
    of h = (leb-true (s x) (s t) (and_left _ _ h), leb-true (e t) (e x) (and_right (leb (s x) (s t)) _ h))

module _ (I : Index) (S : Sound I) (l : Labelling) (L : SoundLabelling I.children l) where
  abbrev k : ℕ
  k = length I.children

  -- s is not above e
  pub outer_low : (p : ℕ) → p < k → get_or l.s p 0 ≤ get_or l.e p 0
  outer_low p b = omega (arith, L.outer_is p b, least_below (λ q. get_or l.s q 0) (get_or l.e p 0) (get_or I.children p []))

  -- where m is s, outer containment is a path
  pub contained_down : l.m ≡ l.s → (x t : ℕ) → x < k → t < k → Contained l x t ↔ Down I.children x t
  contained_down same x t bx bt = (
    λ c. inner_below I S l L (get_or l.e x 0) x t bx bt (rw same (omega (arith, c.0, outer_low t bt))) c.1 (omega arith),
    λ w. outer_needed I S l L bx w,
  )

  module _ (tree : is_tree I.children ≡ true) where
    -- in a plain hierarchy m is s
    pub tree_inner : l.m ≡ l.s
    tree_inner =
        let one : OneParent I.children = (tree_exactly I.children (child_in S.condensed)).0 tree in
        ext_get_or 0 l.m l.s (omega (arith, L.m_long, L.s_long))
        (λ p h. omega (arith, inner_outer L (child_in S.condensed) one p (omega (arith, L.m_long))))

    pub contained_exactly : (x t : ℕ) → x < k → t < k → Contained l x t ↔ Down I.children x t
    contained_exactly = contained_down tree_inner

-- of every graph that yields the index, in each of its labellings: outer containment holds between two vertices' groups exactly where the one reaches
-- the other
pub contained_reaches :
    {I : Index} (M : Made I) → is_tree I.children ≡ true → (l : Labelling) → Member l I.labels
    → (u v : ℕ) → u < length I.names → v < length I.names → Contained l (place_in I u) (place_in I v) ↔ Reaches M.graph u v
contained_reaches {I} M tree l i u v bu bv =
    let S : Sound I = (sound_exactly I).1 M in
    let L : SoundLabelling I.children l = every_member (SoundLabelling I.children) S.labelled i in
    Iff.trans
    (contained_exactly I S l L tree (place_in I u) (place_in I v) (place_low S.condensed u bu) (place_low S.condensed v bv))
    (Iff.symm (made_paths M u v bu bv))

-- of a graph and some orders
pub contained_right :
    (G : Graph) (ends : Ends G) (orders : List (List ℕ)) → Every (Order G.n) orders → is_tree (index_of G orders).children ≡ true
    → (l : Labelling) → Member l (index_of G orders).labels
    → (u v : ℕ) → u < G.n → v < G.n → Contained l (place_in (index_of G orders) u) (place_in (index_of G orders) v) ↔ Reaches G u v
contained_right G ends orders permuted tree l i u v bu bv =
    let M : Made (index_of G orders) = record { graph = G; ends = ends; orders = orders; permuted = permuted; yields = refl } in
    contained_reaches M tree l i u v (omega (arith, made_long M)) (omega (arith, made_long M))
