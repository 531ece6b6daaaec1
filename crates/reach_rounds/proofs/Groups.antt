-- The edges between groups: from each group to its children, and along added edges from the source's group to the target's.
use mathlib.Core.Bool.{true}
use mathlib.Core.Logic.{inl, inr}
use mathlib.Core.Path.{◌≡◌, sym, ◌∙◌}
use mathlib.Core.List.{List, [], ◌∷◌, map}
use Prim.Native.Nat.{ℕ, ◌<◌}
use native.Mathlib.Omega.{arith}
use lib.ListN.{length, get_or, length-map, length-append}
use Rattle.lineage.specs.Lists.{upto, joined}
use Rattle.lineage.specs.Graph.{Graph, Edge, first, later, Ends}
use Rattle.lineage.specs.Index.{Index}
use Rattle.lineage.specs.Question.{place_in}
use Rattle.lineage.specs.Sound.{child_of}
use Rattle.laws.specs.Sound.{Sound}
use Rattle.laws.proofs.Lists.{in_upto, upto_low}
use Rattle.laws.proofs.Edges.{edge_left, edge_right, edge_split, edge_map, map_edge, joined_paired, edge_joined, joined_edge}
use Rattle.laws.proofs.Grouped.{child_in, place_low}
use Rattle.reach_rounds.specs.Over.{groups_with}

-- mapped edges, both ends alike
mapped_edge : (f : ℕ → ℕ) {S T : List ℕ} {a b : ℕ} → Edge S T a b → Edge (map f S) (map f T) (f a) (f b)
mapped_edge f first = first
mapped_edge f (later e) = later (mapped_edge f e)

edge_mapped :
    (P : ℕ → ℕ → Type 0) (f : ℕ → ℕ) (S T : List ℕ) → ((a b : ℕ) → Edge S T a b → P (f a) (f b)) → {p q : ℕ} → Edge (map f S) (map f T) p q → P p q
edge_mapped P f [] T all {p = p} {q = q} e = elim e [ ]
edge_mapped P f (s ∷ S) [] all {p = p} {q = q} e = elim e [ ]
edge_mapped P f (s ∷ S) (t ∷ T) all first = all s t first
edge_mapped P f (s ∷ S) (t ∷ T) all (later e) = edge_mapped P f S T (λ a b x. all a b (later x)) e

module _ (I : Index) (S T : List ℕ) where
  abbrev D : Graph
  D = groups_with I S T

  abbrev k : ℕ
  k = length I.children

  abbrev from : ℕ → List ℕ
  from p = map (λ q. p) (get_or I.children p [])

  abbrev into : ℕ → List ℕ
  into p = map (λ q. q) (get_or I.children p [])

  row_paired : (p : ℕ) → length (from p) ≡ length (into p)
  row_paired p = length-map (get_or I.children p []) (λ q. p) ∙ sym (length-map (get_or I.children p []) (λ q. q))

  rows_paired : length (joined (map from (upto k))) ≡ length (joined (map into (upto k)))
  rows_paired = joined_paired from into row_paired (upto k)

  -- what an edge is
  pub data Step : ℕ → ℕ → Type 0 where
    child : {p q : ℕ} → p < k → child_of I.children p q ≡ true → Step p q
    added : {a b : ℕ} → Edge S T a b → Step (place_in I a) (place_in I b)

  pub edge_step : (p q : ℕ) → Edge D.sources D.targets p q → Step p q
  edge_step p q e =
      elim (edge_split (joined (map from (upto k))) (map (place_in I) S) (joined (map into (upto k))) (map (place_in I) T) rows_paired e) [
        | inl i ↦
            joined_edge from into row_paired Step (upto k)
            (λ x j u v. map_edge Step (λ q. x) (λ q. q) (get_or I.children x []) (λ y m. child (upto_low k x j) m)) p q i
        | inr i ↦ edge_mapped Step (place_in I) S T (λ a b x. added x) i
      ]

  pub step_edge : {p q : ℕ} → Step p q → Edge D.sources D.targets p q
  step_edge (child {p} {q} h i) =
      edge_left (joined (map from (upto k))) (map (place_in I) S) (joined (map into (upto k))) (map (place_in I) T)
      (edge_joined from into row_paired p (upto k) (in_upto k p h) (edge_map (λ x. p) (λ x. x) q (get_or I.children p []) i))
  step_edge (added e) =
      edge_right (joined (map from (upto k))) (map (place_in I) S) (joined (map into (upto k))) (map (place_in I) T) rows_paired (mapped_edge (place_in I) e)

-- they lead from groups to groups
module _
    {I : Index} (Z : Sound I) {S T : List ℕ} (low : (a b : ℕ) → Edge S T a b → (a < length I.names) × (b < length I.names))
  where
    pub step_low : {p q : ℕ} → Step I S T p q → (p < length I.children) × (q < length I.children)
    step_low (child {p} {q} h i) = (h, child_in Z.condensed p q h i)
    step_low (added {a} {b} e) = let l = low a b e in (place_low Z.condensed a l.0, place_low Z.condensed b l.1)

    pub groups_ends : length S ≡ length T → Ends (groups_with I S T)
    groups_ends paired = record {
      paired =
          omega (
            arith,
            length-append (joined (map (from I S T) (upto (length I.children)))) (map (place_in I) S),
            length-append (joined (map (into I S T) (upto (length I.children)))) (map (place_in I) T),
            rows_paired I S T,
            length-map S (place_in I),
            length-map T (place_in I),
          );
      sources_low = λ p q e. (step_low (edge_step I S T p q e)).0;
      targets_low = λ p q e. (step_low (edge_step I S T p q e)).1;
    }
