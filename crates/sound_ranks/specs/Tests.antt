-- The parts of lineage's tests that functions of their own compute.
use Rattle.std.specs.Prelude.{Bool, ◌&&◌, List, [], ℕ, ltb, get_or}
use Rattle.lineage.specs.Labels.{Labelling}
use Rattle.lineage.specs.Sound.{rank_passes, fall_passes, outer_passes, inner_passes}
use Rattle.stored.specs.Sections.{labelling_in}

-- a labelling of which only the numbers by place are told: the tests of s, m and e look at nothing else
abbrev pub tuples_alone : ℕ → ℕ → List ℕ → ℕ → Labelling
tuples_alone w z tuples k = labelling_in w z tuples [] k

-- e falls from p to child i of its row
abbrev pub falls_to : List (List ℕ) → Labelling → ℕ → ℕ → Bool
falls_to children l p i = ltb (get_or l.e (get_or (get_or children p []) i 0) 0) (get_or l.e p 0)

-- the place at rank r has that rank, and its m is a rank not above its e
abbrev pub rank_and_inner : ℕ → Labelling → ℕ → Bool
rank_and_inner k l r = rank_passes k l r && inner_passes l (get_or l.by_rank r 0)

-- e falls along the children of p, and s of p is the least of its own e and its children's s
abbrev pub fall_and_outer : List (List ℕ) → Labelling → ℕ → Bool
fall_and_outer children l p = fall_passes children l p && outer_passes children l p
