-- The window in which the labelling under one order is made, for n vertices in k groups with c children in all. From base on:
--
--   from              words      holds
--   0                 n          the places as the order has them; at the end, where they are asked for, the levels
--   n                 k          those of them that are nobody's child
--   n + k             k + 1 + c  the rows of each place's children as the order has them
--   n + 2k + 1 + c    7k         the seven regions of the traversal: the first is s, the fifth the places by rank, the sixth m and the last e
use Rattle.std.specs.Prelude.{◌≡◌, List, ℕ, ◌+◌, ◌*◌, ◌≤◌}
use Rattle.lineage.specs.Lists.{those, part}
use Rattle.lineage.specs.Graph.{group_list}
use Rattle.lineage.specs.Labels.{in_order, Labelling, labelling}
use Rattle.numbers.specs.Regions.{Kept}
use Rattle.build_rows.specs.Rows.{RowsAt, rows_in, turned_row}
use Rattle.build_orders.specs.Roots.{row_empty}
use Rattle.build_levels.specs.Children.{children_in_words}

-- where those that are nobody's child lie, the rows, the traversal and the places by rank, and how many words there are in all
abbrev pub roots_at : ℕ → ℕ → ℕ
roots_at base n = base + n

abbrev pub ordered_at : ℕ → ℕ → ℕ → ℕ
ordered_at base n k = roots_at base n + k

abbrev pub walk_at : ℕ → ℕ → ℕ → ℕ → ℕ
walk_at base n k c = ordered_at base n k + k + 1 + c

abbrev pub by_rank_at : ℕ → ℕ → ℕ → ℕ → ℕ
by_rank_at base n k c = walk_at base n k c + 4 * k

abbrev pub labels_window : ℕ → ℕ → ℕ → ℕ
labels_window n k c = n + 9 * k + 1 + c

-- the labelling that lies in a window: s, m and e by place, and the places by rank
abbrev pub window_labelling : List ℕ → ℕ → ℕ → ℕ → ℕ → Labelling
window_labelling work base n k c =
    record {
      s = part work (walk_at base n k c) k;
      m = part work (walk_at base n k c + 5 * k) k;
      e = part work (walk_at base n k c + 6 * k) k;
      by_rank = part work (by_rank_at base n k c) k;
    }

-- the group list of the names that lie in work, and the children whose rows do, their values behind the starts
abbrev pub groups_by : List ℕ → ℕ → ℕ → List ℕ
groups_by work names n = group_list (part work names n)

abbrev pub children_by : List ℕ → ℕ → ℕ → ℕ → List (List ℕ)
children_by work children k c = children_in_words work children (children + k + 1) c k

-- what an order is made into: of the places as the order has them those whose row of parents is empty, q in all, and the parents' rows turned over them
pub record OrderRows (order work work' : List ℕ) (n k c names parents base q : ℕ) : Type 0 where
  pub kept : Kept work work' base (labels_window n k c)
  pub few : q ≤ k
  pub roots : part work' (roots_at base n) q ≡ those (row_empty (part work parents (k + 1))) (in_order order (groups_by work names n))
  pub rows : RowsAt work' (ordered_at base n k) k c (turned_row (rows_in work parents (parents + k + 1) c k) (in_order order (groups_by work names n)))

-- nothing but the window differs, and in it lies the labelling under the order
pub record Labelled (order work work' : List ℕ) (n k c names children base : ℕ) : Type 0 where
  pub kept : Kept work work' base (labels_window n k c)
  pub made : window_labelling work' base n k c ≡ labelling (groups_by work names n) (children_by work children k c) order
