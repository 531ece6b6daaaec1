-- Work memory while an index is built, for n vertices in k groups, e edges and c child entries:
--
--   from                   words          holds
--   0                      n              names
--   n                      n              group list, k names
--   2n                     n              the place of each vertex's group
--   3n                     3k + 2 + 2e    the window of the crate build_children: parents, then children
--   3n + 3k + 2 + 2e       n + 9k + 1 + c the window of the crate build_labelled: one labelling after the other, and the levels
use Rattle.std.specs.Prelude.{◌≡◌, List, ℕ, ◌+◌, ◌*◌, ◌≤◌, ◌<◌, length}
use Rattle.lineage.specs.Lists.{joined, part}
use Rattle.lineage.specs.Numbers.{Width}
use Rattle.lineage.specs.Graph.{Graph, Ends, Condensed, condense, group_list}
use Rattle.lineage.specs.Labels.{Order, Labelling, labelling}
use Rattle.lineage.specs.Stored.{starts_from, label_numbers, most_labellings}
use Rattle.lineage.specs.Calls.{order_at, work_needed}
use Rattle.numbers.specs.Bounds.{vertex_bound, entry_bound}
use Rattle.numbers.specs.Regions.{Kept}
use Rattle.build_children.specs.Window.{children_at}
use Rattle.build_labelled.specs.Window.{groups_by, children_by, Labelled}
use Rattle.build_labelled.specs.Fit.{GroupsFit}
use Rattle.stored_header.specs.declared.Layout.{Layout}
use Rattle.stored_header.specs.Header.{Stride, counts, layout_by}

-- where the children lie, and where a labelling is made
abbrev pub children_from : ℕ → ℕ → ℕ → ℕ
children_from n k e = children_at (3 * n) k e

abbrev pub labels_from : ℕ → ℕ → ℕ → ℕ
labels_from n k e = children_from n k e + k + 1 + e

-- names, group list and children as they lie in work
abbrev pub condensed_in : List ℕ → (n k c e : ℕ) → Condensed
condensed_in work n k c e = record { names = part work 0 n; groups = part work n k; children = children_by work (children_from n k e) k c }

-- groups and children lie in work, to be labelled and to be written
pub record GroupsStored (work : List ℕ) (n k c e : ℕ) : Type 0 where
  pub few_groups : k ≤ n
  pub few_children : c ≤ e
  pub fit : GroupsFit work n k c 0 (2 * n) (3 * n) (children_from n k e) (labels_from n k e)
  pub groups : part work n k ≡ group_list (part work 0 n)
  pub starts : part work (children_from n k e) (k + 1) ≡ starts_from 0 (children_by work (children_from n k e) k c)
  pub values : part work (children_from n k e + k + 1) c ≡ joined (children_by work (children_from n k e) k c)

-- edges between vertices, within the bounds of every form, and the needed words
pub record CondensedFit (G : Graph) (work : List ℕ) : Type 0 where
  pub ends : Ends G
  pub vertices : G.n ≤ vertex_bound
  pub edges : length G.sources ≤ entry_bound
  pub room : work_needed G ≤ length work

-- what is found: k groups and c child entries, in the needed words
pub record CondensedFound (G : Graph) (work work' : List ℕ) (k c : ℕ) : Type 0 where
  pub kept : Kept work work' 0 (work_needed G)
  pub stored : GroupsStored work' G.n k c (length G.sources)
  pub is : condensed_in work' G.n k c (length G.sources) ≡ condense G

-- a layout within the bounds of every form, orders of its n vertices, and its groups in work
pub record Ready (l : Layout) (e : ℕ) (orders work : List ℕ) : Type 0 where
  pub width : Width l.width
  pub stride : Stride l.stride
  pub laid : l ≡ layout_by l.width l.stride (counts l.n l.k l.c l.d)
  pub vertices : l.n ≤ vertex_bound
  pub edges : e ≤ entry_bound
  pub least : 1 ≤ l.d
  pub most : l.d ≤ most_labellings
  pub whole : length orders ≡ l.d * l.n
  pub permuted : (j : ℕ) → j < l.d → Order l.n (order_at l.n orders j)
  pub stored : GroupsStored work l.n l.k l.c e

-- the labelling under order j of the groups that lie in work, and its numbers
abbrev pub labelling_under : Layout → ℕ → (orders work : List ℕ) → ℕ → Labelling
labelling_under l e orders work j =
    labelling (groups_by work 0 l.n) (children_by work (children_from l.n l.k e) l.k l.c) (order_at l.n orders j)

abbrev pub labelling_block : Layout → ℕ → (orders work : List ℕ) → ℕ → List ℕ
labelling_block l e orders work j = label_numbers l.stride l.k (labelling_under l e orders work j)

-- what is left by the labelling under order j
abbrev pub OrderLabelled : Layout → ℕ → (orders work work' : List ℕ) → ℕ → Type 0
OrderLabelled l e orders work work' j =
    Labelled (order_at l.n orders j) work work' l.n l.k l.c 0 (children_from l.n l.k e) (labels_from l.n l.k e)
