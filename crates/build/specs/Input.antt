-- What is lent, as lineage has it.
use Rattle.std.specs.Prelude.{List, ℕ, ◌≤◌}
use Rattle.lineage.specs.Numbers.{Width}
use Rattle.lineage.specs.Stored.{Form, most_labellings}
use Rattle.lineage.specs.Calls.{Input}
use Rattle.numbers.specs.Bounds.{vertex_bound, entry_bound}
use Rattle.build_orders.specs.Input.{graph_of}
use Rattle.stored_header.specs.declared.Row.{Row}
use Rattle.stored_header.specs.Header.{Stride}

-- an edge list and an order list of d orders
abbrev pub input_of : ℕ → (sources targets : List ℕ) → ℕ → List ℕ → Input
input_of n sources targets d orders = record { graph = graph_of n sources targets; d = d; orders = orders }

-- the form of a number, with its row of the table
abbrev pub form_by : ℕ → Row → Form
form_by number row = record {
  number = number;
  width = row.width;
  vertices = row.vertices;
  edges = row.edges;
  entries = row.entries;
  labellings = row.labellings;
  by_place = row.stride;
  tree = row.tree;
}

-- a row within the bounds of every form
pub record RowFit (row : Row) : Type 0 where
  pub width : Width row.width
  pub stride : Stride row.stride
  pub labellings : row.labellings ≤ most_labellings
  pub vertices : row.vertices ≤ vertex_bound
  pub edges : row.edges ≤ entry_bound
