-- The window that children and parents of k groups and e edges are laid out in. From base on: where the rows of parents start, k + 1 words, and e words whose
-- first c are the parents; k stamps, and then the sequence 0, .. , k - 1; where the rows of children start, k + 1 words, and e words whose first c are the
-- children.
use Rattle.std.specs.Prelude.{Bool, List, ℕ, ◌+◌, ◌*◌, ◌^◌, ◌≤◌, ◌<◌, length}
use Rattle.lineage.specs.Lists.{part}
use Rattle.lineage.specs.Graph.{Graph, Ends, is_child}
use Rattle.laws.specs.Laid.{Below, Rows}
use Rattle.numbers.specs.Regions.{Kept, Outside}
use Rattle.build_rows.specs.Rows.{RowsOnce}
use Rattle.build_children.specs.Places.{child_places}

-- where the sequence lies, where the children start, and how many words there are in all
abbrev pub sequence_at : ℕ → ℕ → ℕ → ℕ
sequence_at base k e = base + k + 1 + e

abbrev pub children_at : ℕ → ℕ → ℕ → ℕ
children_at base k e = sequence_at base k e + k

abbrev pub children_window : ℕ → ℕ → ℕ
children_window k e = 3 * k + 2 + 2 * e

-- edges between vertices; for each vertex a place below k, outside the window; and the window lies in the buffer
pub record ChildrenFit (G : Graph) (work : List ℕ) (place k base : ℕ) : Type 0 where
  pub ends : Ends G
  pub place_there : Outside work place G.n base (children_window k (length G.sources))
  pub place_low : Below k (part work place G.n)
  pub room : base + children_window k (length G.sources) ≤ length work
  pub few_edges : length G.sources < 2 ^ 32
  pub few_groups : k < 2 ^ 32

-- the rows of children, c in all, in a window for e edges
abbrev pub ChildrenAt : List ℕ → ℕ → ℕ → ℕ → ℕ → (ℕ → List ℕ) → Type 0
ChildrenAt work base k e c row = Rows (part work (children_at base k e) (k + 1)) (part work (children_at base k e + k + 1) c) k row

-- the rows of parents, of a group those that pass a test with it
abbrev pub ParentsAt : List ℕ → ℕ → ℕ → ℕ → (ℕ → ℕ → Bool) → Type 0
ParentsAt work base k c test = RowsOnce (part work base (k + 1)) (part work (base + k + 1) c) k (λ q p. test p q)

-- what the pass leaves: nothing but the window differs, and in it lie the children and the parents, c in all
pub record ChildrenFound (G : Graph) (work work' : List ℕ) (place k base c : ℕ) : Type 0 where
  pub kept : Kept work work' base (children_window k (length G.sources))
  pub few : c ≤ length G.sources
  pub children : ChildrenAt work' base k (length G.sources) c (child_places G (part work place G.n) k)
  pub parents : ParentsAt work' base k c (is_child G (part work place G.n))
