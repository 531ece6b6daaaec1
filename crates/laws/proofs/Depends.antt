-- The index depends on names, children and orders alone: the group list is told by the names, and levels and labellings by groups, children and
-- orders. So two edge lists that give the same names and the same children give the same index under the same orders.
use mathlib.Core.Path.{◌≡◌, ap}
use mathlib.Core.List.{List}
use Prim.Native.Nat.{ℕ}
use Rattle.lineage.specs.Graph.{Graph, group_list, Condensed, condense}
use Rattle.lineage.specs.Index.{index_by, index_of}

pub condense_same : (G H : Graph) → (condense G).names ≡ (condense H).names → (condense G).children ≡ (condense H).children → condense G ≡ condense H
unfolding condense
condense_same G H ns cs = λ i. record { names = ns i; groups = group_list (ns i); children = cs i }

-- and so the whole index, under the same orders
pub index_same :
    (G H : Graph) → (condense G).names ≡ (condense H).names → (condense G).children ≡ (condense H).children
    → (orders : List (List ℕ)) → index_of G orders ≡ index_of H orders
unfolding index_of
index_same G H ns cs orders = ap (λ (c : Condensed). index_by c orders) (condense_same G H ns cs)
