-- What opening decides (document 01, "Stored form 1"): the contents are sound when some edge list, of any length, and d orders yield exactly these bytes.
use Rattle.std.specs.Prelude.{true, ◌≡◌, List, ℕ, ◌≤◌, length}
use Rattle.lineage.specs.Lists.{Every}
use Rattle.lineage.specs.Graph.{Graph, Ends}
use Rattle.lineage.specs.Labels.{Order}
use Rattle.lineage.specs.Index.{index_of}
use Rattle.lineage.specs.Stored.{Form, form_of, header_length, counts_fit, offsets_fit, encode, header_at, counts_in}
use Rattle.lineage.specs.Sound.{is_tree}
use Rattle.lineage.specs.Calls.{FormsTaken, takes}

-- some edge list, of any length, and some orders yield exactly these bytes of a form; at a form of plain hierarchies its groups are one
pub record Yields (F : Form) (b : List ℕ) : Type 0 where
  pub graph : Graph
  pub ends : Ends graph
  pub orders : List (List ℕ)
  pub permuted : Every (Order graph.n) orders
  pub plain : F.tree ≡ true → is_tree (index_of graph orders).children ≡ true
  pub bytes : encode F (index_of graph orders) ≡ b

-- the header is right for its form, which is taken: none of 10, 11 and 12 applies
pub record HeaderRight (T : FormsTaken) (b : List ℕ) : Type 0 where
  pub long : header_length ≤ length b
  pub taken : takes T (header_at b 0) ≡ true
  pub counts : counts_fit (form_of (header_at b 0)) (counts_in b) ≡ true
  pub offsets : offsets_fit (form_of (header_at b 0)) (counts_in b) b ≡ true
