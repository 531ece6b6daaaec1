-- What is lent where none of checks 1 to 7 applies.
use Rattle.std.specs.Prelude.{◌≡◌, ℕ, ◌*◌, ◌≤◌, length}
use Rattle.lineage.specs.Graph.{Ends}
use Rattle.lineage.specs.Stored.{Form}
use Rattle.lineage.specs.Calls.{Input, work_needed}

-- vertices, edges and labellings within the form's bounds, edges between vertices, d lists of n numbers, and enough work memory
pub record Admitted (F : Form) (B : Input) (work : ℕ) : Type 0 where
  pub vertices : B.graph.n ≤ F.vertices
  pub edges : length B.graph.sources ≤ F.edges
  pub ends : Ends B.graph
  pub least : 1 ≤ B.d
  pub most : B.d ≤ F.labellings
  pub whole : length B.orders ≡ B.d * B.graph.n
  pub room : work_needed B.graph ≤ work
