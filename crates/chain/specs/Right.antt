-- What a chain is to be, told of a graph alone (document 02, [4]).
use Rattle.std.specs.Prelude.{List, [], ◌∷◌, ℕ, ◌≤◌}
use Rattle.lineage.specs.Graph.{Graph, Reaches}
use Rattle.laws.specs.Leads.{OneGroup}
use Rattle.laws_same.specs.Same.{ChildGroup}

-- b comes next after a on the way to v: of all vertices whose group is a child of a's and reaches v it is the lowest, so it names the lowest such group
pub record Next (G : Graph) (v a b : ℕ) : Type 0 where
  pub child : ChildGroup G a b
  pub reaches : Reaches G b v
  pub lowest : (c : ℕ) → ChildGroup G a c → Reaches G c v → b ≤ c

-- the chain from the group named a to v's group: for v's own group that one name, otherwise the name followed by the chain from the next
pub data Chain (G : Graph) (v : ℕ) : ℕ → List ℕ → Type 0 where
  arrived : {a : ℕ} → OneGroup G a v → Chain G v a (a ∷ [])
  onward : {a b : ℕ} {rest : List ℕ} → Next G v a b → Chain G v b rest → Chain G v a (a ∷ rest)
