-- The upstream list (document 02, [13], by the rule of [2]): all other vertices that reach u, and u itself exactly if its group has more than one vertex.
use Rattle.std.specs.Prelude.{◌≡◌, ℕ}
use Rattle.lineage.specs.Graph.{Graph, Reaches}
use Rattle.laws.specs.Leads.{OneGroup}

pub data Upstream (G : Graph) (u : ℕ) : ℕ → Type 0 where
  other : {v : ℕ} → (v ≡ u → ⊥) → Reaches G v u → Upstream G u v
  itself : {w : ℕ} → (w ≡ u → ⊥) → OneGroup G u w → Upstream G u u
