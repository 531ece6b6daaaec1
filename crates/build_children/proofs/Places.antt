-- Parents of groups told by their places. The rows of edges by target hold, for each group, the places that its edges come from: an edge leads from p into q
-- exactly where p stands in row q. Without their own numbers and without repeats they are the rows of parents.
use mathlib.Core.Bool.{Bool, true, false, not, ◌&&◌, ◌||◌, and-true, and-false, and_comm, or-false}
use mathlib.Core.Path.{◌≡◌, refl, sym, ap, ap₂, ◌∙◌}
use mathlib.Core.List.{List, [], ◌∷◌}
use Prim.Native.Nat.{ℕ, ◌<◌}
use native.Mathlib.Decide.{ℕ_discrete}
use lib.Dec.{eqb}
use lib.ListN.{length, get_or}
use borrow.Author.Tests.{eq-eqb, ne_eqb}
use Rattle.lineage.specs.Lists.{among}
use Rattle.lineage.specs.Graph.{Graph, Edge, first, later, some_edge, is_child}
use Rattle.laws.specs.EdgeRows.{row}
use Rattle.laws.specs.Laid.{Below, Rows}
use Rattle.laws.proofs.Tests.{and_left}
use Rattle.laws.proofs.Lists.{here, there}
use Rattle.laws.proofs.EdgeRows.{edge_rows}
use Rattle.laws.proofs.Laid.{below_in, values_below}
use Rattle.build_rows.specs.Rows.{mapped, stripped_row, RowsOnce}
use Rattle.build_rows.proofs.Pairs.{mapped_low}
use Rattle.build_stripping.proofs.Once.{new_among, new_once}

eqb_turn : (a b : ℕ) → eqb a b ≡ eqb b a
eqb_turn a b = at (ℕ_discrete a b)
  where
    at : Dec (a ≡ b) → eqb a b ≡ eqb b a
    at (yes e) = eq-eqb a b e ∙ sym (eq-eqb b a (sym e))
    at (no e) = ne_eqb a b e ∙ sym (ne_eqb b a (λ z. e (sym z)))

-- p stands among the places that the edges into q come from exactly where some edge leads from p into q
edge_into :
    (place S T : List ℕ) (p q : ℕ)
    → among p (row (mapped place T) (mapped place S) q) ≡ some_edge (λ s t. eqb (get_or place s 0) p && eqb (get_or place t 0) q) S T
unfolding mapped
edge_into place [] [] p q = refl
edge_into place [] (t ∷ T) p q = refl
edge_into place (s ∷ S) [] p q = refl
edge_into place (s ∷ S) (t ∷ T) p q = at (eqb (get_or place t 0) q) refl (edge_into place S T p q)
  where
    at :
        (b : Bool) → eqb (get_or place t 0) q ≡ b
        → among p (row (mapped place T) (mapped place S) q) ≡ some_edge (λ s t. eqb (get_or place s 0) p && eqb (get_or place t 0) q) S T
        → among p (row (mapped place (t ∷ T)) (mapped place (s ∷ S)) q) ≡ some_edge (λ s t. eqb (get_or place s 0) p && eqb (get_or place t 0) q) (s ∷ S) (t ∷ T)
    at true e ih = rw (e, row, and-true (eqb (get_or place s 0) p)) (ap₂ ◌||◌ (eqb_turn p (get_or place s 0)) ih)
    at false e ih = rw (e, row, and-false (eqb (get_or place s 0) p)) ih

-- an edge's target stands in the list of targets
edge_target : {S T : List ℕ} {u v : ℕ} → Edge S T u v → among v T ≡ true
edge_target (first {v = v} {T = T}) = here v T
edge_target {v = v} (later {y = y} {T = T} e) = there v y T (edge_target e)

-- the places that the edges into q come from, with repeats, and q itself where an edge stays in its group
abbrev pub coming_from : Graph → List ℕ → ℕ → List ℕ
coming_from G place q = row (mapped place G.targets) (mapped place G.sources) q

module _ (G : Graph) (place : List ℕ) (k : ℕ) where
  -- they are places
  pub coming_low : Below (length place) G.sources → Below k place → (q p : ℕ) → among p (coming_from G place q) ≡ true → p < k
  coming_low sources_low places q p i =
      below_in k (mapped place G.sources) (mapped_low place G.sources k sources_low places) p
      (edge_target ((edge_rows (mapped place G.targets) (mapped place G.sources) q p).0 i))

  -- stripped, they are the parents
  pub stripped_parents :
      Below (length place) G.sources → Below k place → {starts values : List ℕ} → Rows starts values k (stripped_row (coming_from G place))
      → RowsOnce starts values k (λ q p. is_child G place p q)
  unfolding is_child
  stripped_parents sources_low places {starts} {values} r = record {
    laid = r.laid;
    low = values_below r k (λ q p h i. coming_low sources_low places q p (and_left (among p (coming_from G place q)) _ (sym (new_among (q ∷ []) (coming_from G place q) p) ∙ i)));
    once = λ q h. rw (r.row_is q h) (new_once (q ∷ []) (coming_from G place q));
    holds = λ q p h l. ap (among p) (r.row_is q h) ∙ new_among (q ∷ []) (coming_from G place q) p ∙ child_is q p;
  }
    where
      child_is : (q p : ℕ) → (among p (coming_from G place q) && not (among p (q ∷ []))) ≡ is_child G place p q
      child_is q p =
          and_comm (among p (coming_from G place q)) (not (eqb p q || false))
          ∙ ap₂ ◌&&◌ (ap not (or-false (eqb p q))) (edge_into place G.sources G.targets p q)
