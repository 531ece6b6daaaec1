-- What a text is written from, once 1, 2, 3 and 7 are passed.
use Rattle.std.specs.Prelude.{◌≤◌, length}
use Rattle.lineage.specs.Graph.{Graph, Ends}
use Rattle.numbers.specs.Bounds.{vertex_bound, entry_bound}

-- an edge list whose lines can be written: within the bounds of every form, edges between vertices
pub record Lines (G : Graph) : Type 0 where
  pub vertices : G.n ≤ vertex_bound
  pub edges : length G.sources ≤ entry_bound
  pub ends : Ends G
