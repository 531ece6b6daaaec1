-- The index: what an edge list and some orders come to, as lists of numbers; the stored form is one way to write it.
use Rattle.std.specs.Prelude.{◌≡◌, List, map, ℕ}
use Rattle.lineage.specs.Lists.{Every}
use Rattle.lineage.specs.Graph.{Graph, Ends, Condensed, condense, levels_of}
use Rattle.lineage.specs.Labels.{Order, Labelling, labelling}

-- the name of each vertex's group, all names rising, and by place the levels and the children; then the labellings
pub record Index : Type 0 where
  pub names : List ℕ
  pub groups : List ℕ
  pub levels : List ℕ
  pub children : List (List ℕ)
  pub labels : List Labelling

-- names and children with the orders: no edge is looked at any more
unfoldable pub index_by : Condensed → List (List ℕ) → Index
unfolding levels_of labelling
index_by c orders =
    record {
      names = c.names;
      groups = c.groups;
      levels = levels_of c.children;
      children = c.children;
      labels = map (labelling c.groups c.children) orders;
    }

-- the index of an edge list under some orders
unfoldable pub index_of : Graph → List (List ℕ) → Index
unfolding condense index_by
index_of G orders = index_by (condense G) orders

-- some edge list, of any length, and some orders yield exactly this index
pub record Made (I : Index) : Type 0 where
  pub graph : Graph
  pub ends : Ends graph
  pub orders : List (List ℕ)
  pub permuted : Every (Order graph.n) orders
  pub yields : index_of graph orders ≡ I
