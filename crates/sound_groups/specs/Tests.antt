-- The parts of lineage's tests that functions of their own compute.
use Rattle.std.specs.Prelude.{Bool, ◌&&◌, List, ℕ, eqb, leb, get_or}
use Rattle.lineage.specs.Sound.{row_passes, level_passes}

-- the name of v is not above v and is its own name
abbrev pub own_name : List ℕ → ℕ → Bool
own_name names v = leb (get_or names v 0) v && eqb (get_or names (get_or names v 0) 0) (get_or names v 0)

-- the children of p are places, strictly rising, and its level is what they give
abbrev pub row_and_level : List (List ℕ) → List ℕ → ℕ → Bool
row_and_level children levels p = row_passes children p && level_passes children levels p
