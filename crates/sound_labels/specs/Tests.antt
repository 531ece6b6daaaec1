-- The test of one labelling among those of a stretch.
use Rattle.std.specs.Prelude.{Bool, List, ℕ}
use Rattle.lineage.specs.Labels.{Labelling}
use Rattle.lineage.specs.Sound.{labels_pass}
use Rattle.stored.specs.Sections.{labelling_in, tuples_of, places_of}

-- labelling j of a stretch
abbrev pub labelling_number : ℕ → ℕ → List ℕ → ℕ → ℕ → Labelling
labelling_number w z labels k j = labelling_in w z (tuples_of w z labels k j) (places_of w z labels k j) k

-- and whether it passes its test
abbrev pub labelling_passes : ℕ → ℕ → List (List ℕ) → List ℕ → ℕ → ℕ → Bool
labelling_passes w z children labels k j = labels_pass children (labelling_number w z labels k j)
