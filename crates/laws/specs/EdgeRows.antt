-- The edges of a graph in rows.
use Rattle.std.specs.Prelude.{true, false, ◌↔◌, ◌≡◌, List, [], ◌∷◌, ℕ, ◌<◌, eqb}
use Rattle.lineage.specs.Lists.{among}
use Rattle.lineage.specs.Graph.{Graph, Edge}

-- the values whose key is x, in the lists' sequence
abbrev pub row : List ℕ → List ℕ → ℕ → List ℕ
row [] values x = []
row (k ∷ keys) [] x = []
row (k ∷ keys) (v ∷ values) x = elim (eqb k x) [ true ↦ v ∷ row keys values x | false ↦ row keys values x ]

-- row u holds, in any sequence and any number of times, the vertices that u's edges lead to
pub record EdgeRows (G : Graph) (rows : ℕ → List ℕ) : Type 0 where
  pub holds : (u v : ℕ) → u < G.n → (among v (rows u) ≡ true) ↔ Edge G.sources G.targets u v
