-- The order of the export does not matter (document 02, [12]): two finished builds with the same n and the same orders store the same bytes of a form wherever their
-- groups and their groups' children agree. What a finished build stores is the stored form of its index, and the same lineage comes to the same index under the same orders.
use mathlib.Core.Path.{◌≡◌, sym, ap, ◌∙◌}
use mathlib.Core.List.{map}
use Prim.Native.Nat.{ℕ}
use lib.ListN.{length, take}
use Rattle.lineage.specs.Lists.{upto}
use Rattle.lineage.specs.Graph.{Edge}
use Rattle.lineage.specs.Index.{Index, index_of}
use Rattle.lineage.specs.Stored.{Form, encode}
use Rattle.lineage.specs.Calls.{Input, order_at, orders_of, built}
use Rattle.laws_same.specs.Same.{SameLineage, SameEdges, Shuffled, OneMore}
use Rattle.laws_same.proofs.Lists.{shuffled_same, repeated_same, looped_same}
use Rattle.laws_same.proofs.Edges.{edges_lineage}
use Rattle.laws_same.proofs.Lineage.{lineage_same}
use Rattle.build.proofs.Theorems.{Finished, input_right, total_right, build_stores}

-- the same total, and the same bytes
abbrev pub SameBytes : {F : Form} {B B' : Input} → Finished F B → Finished F B' → Type 0
SameBytes D D' = (D.total ≡ D'.total) × (take D.total D.out' ≡ take D'.total D'.out')

module _
    {F : Form} {B B' : Input} (D : Finished F B) (D' : Finished F B')
    (size : B.graph.n ≡ B'.graph.n) (many : B.d ≡ B'.d) (orders : B.orders ≡ B'.orders)
  where
    orders_same : orders_of B ≡ orders_of B'
    orders_same = λ i. map (order_at (size i) (orders i)) (upto (many i))

    -- wherever groups agree, and their groups' children
    pub builds_same : SameLineage B.graph B'.graph → SameBytes D D'
    builds_same same =
        let index =
        lineage_same B.graph B'.graph (input_right D).ends (input_right D').ends size same (orders_of B)
        ∙ ap (index_of B'.graph) orders_same in
        let bytes : encode F (built B) ≡ encode F (built B') = ap (λ (I : Index). encode F I) index in
        (sym (total_right D) ∙ ap length bytes ∙ total_right D', build_stores D ∙ bytes ∙ sym (build_stores D'))

    -- so wherever the same edges lead between different vertices, each any number of times and in any order
    pub build_edges : SameEdges B.graph B'.graph → SameBytes D D'
    build_edges same = builds_same (edges_lineage same)

    -- any shuffle of the edges
    pub build_shuffled : Shuffled B.graph B'.graph → SameBytes D D'
    build_shuffled s = build_edges (shuffled_same B.graph B'.graph (input_right D).ends.paired s)

    -- an edge repeated, anywhere
    pub build_repeated : {u v : ℕ} → Edge B.graph.sources B.graph.targets u v → OneMore u v B.graph B'.graph → SameBytes D D'
    build_repeated old more = build_edges (repeated_same B.graph B'.graph old more)

    -- a self-loop added, anywhere; read from right to left, one taken away
    pub build_looped : {w : ℕ} → OneMore w w B.graph B'.graph → SameBytes D D'
    build_looped more = build_edges (looped_same B.graph B'.graph more)
