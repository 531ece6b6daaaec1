-- A path read backwards is a path of the turned graph, so both graphs have the same groups, and therefore the same names. Turning twice is no turning: what
-- holds one way holds the other way round.
use mathlib.Core.Logic.{◌↔◌}
use mathlib.Core.Path.{◌≡◌, refl, sym}
use mathlib.Core.List.{List}
use Prim.Native.Nat.{ℕ}
use Rattle.lineage.specs.Graph.{Graph, turned_graph, Ends, Reaches, stay, step, condense}
use Rattle.lineage.specs.Index.{index_by, index_of}
use Rattle.laws.specs.Leads.{OneGroup}
use Rattle.laws.proofs.Edges.{edge_turned}
use Rattle.laws.proofs.Reaches.{reaches_on}
use Rattle.laws_same.proofs.Names.{names_by_groups}

path_turned : {G : Graph} {u v : ℕ} → Reaches G u v → Reaches (turned_graph G) v u
path_turned stay = stay
path_turned (step e r) = reaches_on (path_turned r) (step (edge_turned e) stay)

pub reaches_turned : (G : Graph) (u v : ℕ) → Reaches G u v ↔ Reaches (turned_graph G) v u
reaches_turned G u v = (path_turned {G = G}, path_turned {G = turned_graph G})

group_turned : {G : Graph} {u v : ℕ} → OneGroup G u v → OneGroup (turned_graph G) u v
group_turned m = (path_turned m.1, path_turned m.0)

pub groups_turned : (G : Graph) (u v : ℕ) → OneGroup G u v ↔ OneGroup (turned_graph G) u v
groups_turned G u v = (group_turned {G = G}, group_turned {G = turned_graph G})

pub ends_turned : {G : Graph} → Ends G → Ends (turned_graph G)
ends_turned ends = record {
  paired = sym ends.paired;
  sources_low = λ u v e. ends.targets_low v u (edge_turned e);
  targets_low = λ u v e. ends.sources_low v u (edge_turned e);
}

-- names agree between the two indexes, whatever the two sets of orders
pub names_turned : (G : Graph) → Ends G → (orders back : List (List ℕ)) → (index_of G orders).names ≡ (index_of (turned_graph G) back).names
unfolding index_of index_by condense
names_turned G ends orders back = names_by_groups G (turned_graph G) ends (ends_turned ends) refl (λ u v hu hv. groups_turned G u v)
