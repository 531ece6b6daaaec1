-- The conversions on a plain hierarchy, on a graph that is none though under its order m is s in every group, and on one of two orders, by computation.
use Rattle.std.specs.Prelude.{◌≡◌, refl, List, [], ◌∷◌, ℕ, replicate}
use Rattle.lineage.specs.Graph.{Graph}
use Rattle.lineage.specs.Index.{index_of}
use Rattle.lineage.specs.Stored.{form2, form4, encode}
use Rattle.lineage.specs.Calls.{refused, answered}
use Rattle.hierarchy.specs.Turn.{turn_answer, turn_output}

-- 0 over 1 and 2, which are one group, and over 3; 3 over 4
abbrev plain : Graph
plain = record { n = 5; sources = 0 ∷ 1 ∷ 2 ∷ 0 ∷ 3 ∷ []; targets = 1 ∷ 2 ∷ 1 ∷ 3 ∷ 4 ∷ [] }

abbrev rising : List ℕ
rising = 0 ∷ 1 ∷ 2 ∷ 3 ∷ 4 ∷ []

-- 1 over 0 and 3, 0 over 3, and 2 in the group of 1: the second name from below is at place 2, and its name is 3
abbrev bridged : Graph
bridged = record { n = 4; sources = 1 ∷ 0 ∷ 1 ∷ 1 ∷ 2 ∷ []; targets = 0 ∷ 3 ∷ 3 ∷ 2 ∷ 1 ∷ [] }

abbrev order : List ℕ
order = 0 ∷ 1 ∷ 2 ∷ 3 ∷ []

-- its bytes at form 2 and at form 4
abbrev second : List ℕ
second = encode form2 (index_of plain (rising ∷ []))

abbrev fourth : List ℕ
fourth = encode form4 (index_of plain (rising ∷ []))

pub turns :
    (turn_answer 2 4 second 5 500 200 ≡ answered 180)
    × (turn_output 2 4 second 5 500 (replicate 180 7) ≡ fourth)
    × (turn_answer 4 2 fourth 5 500 200 ≡ answered 196)
    × (turn_output 4 2 fourth 5 500 (replicate 196 7) ≡ second)
    × (turn_answer 4 2 fourth 5 500 195 ≡ refused 9 196)
    × (turn_answer 2 4 second 5 500 179 ≡ refused 9 180)
    × (turn_answer 4 2 second 5 500 200 ≡ refused 11 2)
    × (turn_answer 2 4 fourth 5 500 200 ≡ refused 11 4)
    × (turn_answer 2 4 (encode form2 (index_of plain (rising ∷ rising ∷ []))) 5 500 0 ≡ refused 4 0)
    × (turn_answer 2 4 (encode form2 (index_of bridged (order ∷ []))) 4 500 0 ≡ refused 22 3)
unfolding turn_answer turn_output index_of
turns = (refl, refl, refl, refl, refl, refl, refl, refl, refl, refl)
