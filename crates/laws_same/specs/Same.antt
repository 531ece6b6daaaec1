-- The same lineage (document 02, [12]): groups agree, and their groups' children. And four ways in which two edge lists can be so: they have the same edges
-- between different vertices; the one is the other shuffled; the one has an edge more that the other has already, or a self-loop more.
use Rattle.std.specs.Prelude.{◌↔◌, ◌≢◌, ◌≡◌, List, ◌∷◌, map, ℕ, ◌<◌, length, get_or}
use Rattle.lineage.specs.Graph.{Graph, Edge}
use Rattle.lineage.specs.Labels.{Order}
use Rattle.laws.specs.Leads.{OneGroup}

-- the group of v is a child of the group of u: they differ, and some edge leads from the one into the other
pub record ChildGroup (G : Graph) (u v : ℕ) : Type 0 where
  pub apart : OneGroup G u v → ⊥
  pub s : ℕ
  pub t : ℕ
  pub edge : Edge G.sources G.targets s t
  pub from : OneGroup G u s
  pub into : OneGroup G v t

-- two vertices are in one group of the one graph exactly where they are in the other, and a group is a child of another likewise
pub record SameLineage (G H : Graph) : Type 0 where
  pub groups : (u v : ℕ) → u < G.n → v < G.n → OneGroup G u v ↔ OneGroup H u v
  pub children : (u v : ℕ) → u < G.n → v < G.n → ChildGroup G u v ↔ ChildGroup H u v

-- the same edges between different vertices, each any number of times and in any order
pub record SameEdges (G H : Graph) : Type 0 where
  pub edges : (u v : ℕ) → u ≢ v → Edge G.sources G.targets u v ↔ Edge H.sources H.targets u v

-- the same edges in another order: the same permutation of both lists
pub record Shuffled (G H : Graph) : Type 0 where
  pub positions : List ℕ
  pub permuted : Order (length G.sources) positions
  pub sources : H.sources ≡ map (λ i. get_or G.sources i 0) positions
  pub targets : H.targets ≡ map (λ i. get_or G.targets i 0) positions

-- S' and T' are S and T with one edge more, from u to v, at any position
pub data Inserted (u v : ℕ) : (S T S' T' : List ℕ) → Type 0 where
  here : {S T : List ℕ} → Inserted u v S T (u ∷ S) (v ∷ T)
  behind : {x y : ℕ} {S T S' T' : List ℕ} → Inserted u v S T S' T' → Inserted u v (x ∷ S) (y ∷ T) (x ∷ S') (y ∷ T')

abbrev pub OneMore : ℕ → ℕ → Graph → Graph → Type 0
OneMore u v G H = Inserted u v G.sources G.targets H.sources H.targets
