-- The window that the groups of n vertices and e edges are found in, from the buffer's first word on:
--
--   from          words   holds                                             at the end
--   0             n       0, .. , n - 1                                     the names
--   n             n + 1   where the rows of edges start                     the group list, and from 2n on the places
--   2n + 1        e       the rows
--   2n + 1 + e    6n      the six regions of the traversal, the names in the last
use Rattle.std.specs.Prelude.{◌≡◌, List, ℕ, ◌+◌, ◌*◌, ◌^◌, ◌≤◌, ◌<◌, length}
use Rattle.lineage.specs.Lists.{part}
use Rattle.lineage.specs.Graph.{Graph, Ends, names_of, group_list}
use Rattle.numbers.specs.Regions.{Kept}
use Rattle.build_groups.specs.Places.{places_of_names}

-- how many words there are in all
abbrev pub groups_window : ℕ → ℕ → ℕ
groups_window n e = 8 * n + 1 + e

-- edges between vertices, and the window lies in the buffer
pub record CondenseFit (G : Graph) (work : List ℕ) : Type 0 where
  pub ends : Ends G
  pub room : groups_window G.n (length G.sources) ≤ length work
  pub few_edges : length G.sources < 2 ^ 32
  pub few_vertices : G.n < 2 ^ 32

-- what is found, of k groups: nothing but the window differs; the name of each vertex's group, all names rising, and the place of each vertex's group
pub record GroupsFound (G : Graph) (work work' : List ℕ) (k : ℕ) : Type 0 where
  pub kept : Kept work work' 0 (groups_window G.n (length G.sources))
  pub few : k ≤ G.n
  pub names : part work' 0 G.n ≡ names_of G
  pub groups : part work' G.n k ≡ group_list (names_of G)
  pub count : k ≡ length (group_list (names_of G))
  pub places : part work' (2 * G.n) G.n ≡ places_of_names (names_of G)
