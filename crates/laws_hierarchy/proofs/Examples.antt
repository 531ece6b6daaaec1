-- That m is s does not make a plain hierarchy: 1 leads to 0, 0 to 2, and 1 to 2 besides. The walk reaches 2 through 0, so every block is a whole outer
-- interval, and 2 is a child of two. By computation.
use mathlib.Core.Bool.{true, false}
use mathlib.Core.Path.{◌≡◌, refl}
use mathlib.Core.List.{List, [], ◌∷◌}
use Prim.Native.Nat.{ℕ}
use Rattle.lineage.specs.Graph.{Graph}
use Rattle.lineage.specs.Index.{index_of}
use Rattle.lineage.specs.Sound.{sound, parents_of, is_tree}
use Rattle.laws_hierarchy.specs.Hierarchy.{Alike}

-- the line 1, 0, 2, with an edge from its first vertex to its last
abbrev bridged : Graph
bridged = record { n = 3; sources = 1 ∷ 0 ∷ 1 ∷ []; targets = 0 ∷ 2 ∷ 2 ∷ [] }

-- without that edge
abbrev line : Graph
line = record { n = 3; sources = 1 ∷ 0 ∷ []; targets = 0 ∷ 2 ∷ [] }

abbrev rising : List (List ℕ)
rising = (0 ∷ 1 ∷ 2 ∷ []) ∷ []

-- sound, m is s, and no plain hierarchy
pub alike_shared :
    (sound (index_of bridged rising) ≡ true)
    × Alike (index_of bridged rising)
    × (parents_of (index_of bridged rising).children 2 ≡ 0 ∷ 1 ∷ [])
    × (is_tree (index_of bridged rising).children ≡ false)
unfolding sound index_of is_tree
alike_shared = (refl, (refl, tt), refl, refl)

-- the line alone is one
pub line_tree : is_tree (index_of line rising).children ≡ true
unfolding index_of is_tree
line_tree = refl
