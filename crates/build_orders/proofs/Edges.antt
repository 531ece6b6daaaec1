-- An edge of which no end is n or more; where no edge is bad, edges lead from vertices to vertices.
use mathlib.Core.Bool.{false}
use mathlib.Core.Path.{◌≡◌}
use mathlib.Core.List.{List}
use Prim.Native.Nat.{ℕ, ◌<◌}
use native.Mathlib.Omega.{arith}
use lib.Dec.{leb}
use lib.ListN.{length, get_or}
use borrow.Author.Tests.{lt-leb, leb-false}
use Rattle.lineage.specs.Lists.{upto, any}
use Rattle.lineage.specs.Graph.{Graph, Ends}
use Rattle.lineage.specs.Calls.{bad_edge}
use Rattle.laws.proofs.Tests.{or_false_left, or_false_right}
use Rattle.laws.proofs.Lists.{in_upto, any_none}
use Rattle.laws.proofs.Edges.{edge_position}
use Rattle.build_orders.specs.Input.{graph_of}

-- edge i
module _ (n : ℕ) (sources targets : List ℕ) (i : ℕ) where
  pub good_edge : get_or sources i 0 < n → get_or targets i 0 < n → bad_edge (graph_of n sources targets) i ≡ false
  good_edge h k = rw (lt-leb n (get_or sources i 0) h, lt-leb n (get_or targets i 0) k)

-- no edge is bad
pub ends_of : (G : Graph) → length G.sources ≡ length G.targets → any (bad_edge G) (upto (length G.sources)) ≡ false → Ends G
ends_of G paired none = record {
  paired = paired;
  sources_low = λ u v e. let (i, h, s, t) = edge_position e in omega (arith, leb-false G.n (get_or G.sources i 0) (or_false_left _ _ (good i h)));
  targets_low = λ u v e. let (i, h, s, t) = edge_position e in omega (arith, leb-false G.n (get_or G.targets i 0) (or_false_right (leb G.n (get_or G.sources i 0)) _ (good i h)));
}
  where
    good : (i : ℕ) → i < length G.sources → bad_edge G i ≡ false
    good i h = any_none (bad_edge G) (upto (length G.sources)) none i (in_upto (length G.sources) i h)
