-- Build's input as lineage has it.
use Rattle.std.specs.Prelude.{List, ℕ}
use Rattle.lineage.specs.Graph.{Graph}

-- the graph of n vertices with these edges
abbrev pub graph_of : ℕ → List ℕ → List ℕ → Graph
graph_of n sources targets = record { n = n; sources = sources; targets = targets }
