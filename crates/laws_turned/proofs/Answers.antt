-- From one edge list, u feeds v by the ordinary index exactly where v is fed by u through the turned one, whatever the two sets of orders: each index says yes exactly
-- where its graph has a path, and a path read backwards is a path of the turned graph. The turned list of u holds what is upstream of u.
use mathlib.Core.Bool.{true}
use mathlib.Core.Logic.Iff
use mathlib.Core.Logic.{◌↔◌}
use mathlib.Core.Path.{◌≡◌}
use mathlib.Core.List.{List}
use Prim.Native.Nat.{ℕ, ◌<◌}
use lib.ListN.{length}
use Rattle.lineage.specs.Lists.{among, Every}
use Rattle.lineage.specs.Graph.{Graph, turned_graph, Ends}
use Rattle.lineage.specs.Labels.{Order}
use Rattle.lineage.specs.Index.{index_of}
use Rattle.lineage.specs.Question.{answer, downstream}
use Rattle.laws_answers.proofs.Demands.{answer_right, downstream_right}
use Rattle.laws_answers.specs.Answers.{Downstream}
use Rattle.laws_turned.specs.Upstream.{Upstream}
use Rattle.laws_turned.proofs.Turned.{ends_turned, reaches_turned, groups_turned}

-- downstream in the turned graph is upstream
upstream_turned : {G : Graph} {u v : ℕ} → Downstream (turned_graph G) u v → Upstream G u v
upstream_turned {G} {u} (Downstream.other {v = v} apart r) = Upstream.other apart ((reaches_turned G v u).1 r)
upstream_turned {G} {u} (Downstream.itself {w = w} apart m) = Upstream.itself apart ((groups_turned G u w).1 m)

turned_upstream : {G : Graph} {u v : ℕ} → Upstream G u v → Downstream (turned_graph G) u v
turned_upstream {G} {u} (Upstream.other {v = v} apart r) = Downstream.other apart ((reaches_turned G v u).0 r)
turned_upstream {G} {u} (Upstream.itself {w = w} apart m) = Downstream.itself apart ((groups_turned G u w).0 m)

pub downstream_turned : (G : Graph) (u v : ℕ) → Downstream (turned_graph G) u v ↔ Upstream G u v
downstream_turned G u v = (upstream_turned {G = G}, turned_upstream {G = G})

module _ (G : Graph) (ends : Ends G) (back : List (List ℕ)) (permuted-back : Every (Order G.n) back) where
  pub upstream_right : (u v : ℕ) → u < G.n → (among v (downstream (index_of (turned_graph G) back) u) ≡ true) ↔ Upstream G u v
  upstream_right u v bu = Iff.trans (downstream_right (turned_graph G) (ends_turned ends) back permuted-back u v bu) (downstream_turned G u v)

  module _ (some_back : 0 < length back) (orders : List (List ℕ)) (permuted : Every (Order G.n) orders) (some : 0 < length orders) where
    pub answers_turned :
        (u v : ℕ) → u < G.n → v < G.n
        → ((answer (index_of G orders) u v).says ≡ true) ↔ ((answer (index_of (turned_graph G) back) v u).says ≡ true)
    answers_turned u v bu bv =
        Iff.trans (answer_right G ends orders permuted some u v bu bv)
        (Iff.trans (reaches_turned G u v) (Iff.symm (answer_right (turned_graph G) (ends_turned ends) back permuted-back some_back v u bv bu)))
