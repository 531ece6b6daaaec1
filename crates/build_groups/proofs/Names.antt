-- A group's name is its least vertex, so the names of a graph can be listed.
use mathlib.Core.Path.{◌∙◌}
use Prim.Native.Nat.{ℕ, ◌<◌}
use native.Mathlib.Omega.{arith}
use lib.ListN.{length}
use Rattle.lineage.specs.Graph.{Graph, Ends, stay, name_of, names_of}
use Rattle.laws.proofs.Names.{name_smallest, name_low, name_own, names_long, name_at_lem}
use Rattle.build_groups.specs.Fit.{Named}

-- no name is above its vertex, and a name is its own name
pub names_named : (G : Graph) → Ends G → Named (names_of G)
names_named G ends = record {
  low = λ v h. let l = in_graph v h in omega (arith, name_at_lem G ends v l, name_smallest G ends v v l (stay, stay));
  own = λ v h.
      let l = in_graph v h in
      rw (name_at_lem G ends v l) (name_at_lem G ends (name_of G v) (name_low G ends v l) ∙ name_own G ends v l);
}
  where
    in_graph : (v : ℕ) → v < length (names_of G) → v < G.n
    in_graph v h = omega (arith, names_long G ends)
