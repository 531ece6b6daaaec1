-- The place of each vertex's group.
use Rattle.std.specs.Prelude.{List, map, ℕ, length, get_or}
use Rattle.lineage.specs.Lists.{upto}
use Rattle.lineage.specs.Graph.{group_list, place_of}

-- for each vertex the place of its group, from the names
unfoldable pub places_of_names : List ℕ → List ℕ
unfolding group_list
places_of_names names = map (λ v. place_of (group_list names) (get_or names v 0)) (upto (length names))
