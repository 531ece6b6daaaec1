-- The reckoned examples of exception lists: one table, a single claim, by computation. The paper's graph has ten vertices; its drawing is not in the text,
-- but twelve edges give every outer interval that the text prints, all 15 exceptions of Table 2 with their kinds, and the three that stay under two orders.
use Rattle.std.specs.Prelude.{Bool, true, false, ◌≡◌, refl, List, [], ◌∷◌, map, ℕ, length, get_or}
use Rattle.lineage.specs.Lists.{upto, Every}
use Rattle.lineage.specs.Graph.{Graph}
use Rattle.lineage.specs.Labels.{Labelling}
use Rattle.lineage.specs.Index.{Index, index_of}
use Rattle.laws_exceptions.specs.Exceptions.{exception_numbers, encode_exceptions, says_by_exceptions}

-- document 001, figure 6: 0-1 0-2 1-3 1-4 2-3 2-5 3-7 4-8 5-6 6-8 7-8 7-9
abbrev paper : Graph
paper = record {
  n = 10;
  sources = 0 ∷ 0 ∷ 1 ∷ 1 ∷ 2 ∷ 2 ∷ 3 ∷ 4 ∷ 5 ∷ 6 ∷ 7 ∷ 7 ∷ [];
  targets = 1 ∷ 2 ∷ 3 ∷ 4 ∷ 3 ∷ 5 ∷ 7 ∷ 8 ∷ 6 ∷ 8 ∷ 8 ∷ 9 ∷ [];
}

-- children from left to right, and from right to left
abbrev rightwards : List ℕ
rightwards = 0 ∷ 1 ∷ 2 ∷ 3 ∷ 4 ∷ 5 ∷ 6 ∷ 7 ∷ 8 ∷ 9 ∷ []

abbrev leftwards : List ℕ
leftwards = 9 ∷ 8 ∷ 7 ∷ 6 ∷ 5 ∷ 4 ∷ 3 ∷ 2 ∷ 1 ∷ 0 ∷ []

-- the graphs of document 01: G under order A, the sample text's H under its rising order, and n = 0
abbrev G : Graph
G = record { n = 6; sources = 0 ∷ 1 ∷ 2 ∷ 0 ∷ 3 ∷ 2 ∷ 5 ∷ []; targets = 1 ∷ 2 ∷ 1 ∷ 3 ∷ 4 ∷ 4 ∷ 5 ∷ [] }

abbrev A : List ℕ
A = 0 ∷ 1 ∷ 2 ∷ 3 ∷ 4 ∷ 5 ∷ []

abbrev H : Graph
H = record { n = 4; sources = 0 ∷ 0 ∷ 3 ∷ []; targets = 1 ∷ 2 ∷ 1 ∷ [] }

abbrev rising : List ℕ
rising = 0 ∷ 1 ∷ 2 ∷ 3 ∷ []

abbrev none : Graph
none = record { n = 0; sources = []; targets = [] }

-- s and e of each place
data Interval : Type 0 where
  interval : ℕ → ℕ → Interval

abbrev intervals_of : ℕ → Labelling → List Interval
intervals_of k l = map (λ p. interval (get_or l.s p 0) (get_or l.e p 0)) (upto k)

data Example : Type 0 where
  intervals_are : Graph → (orders : List (List ℕ)) → List (List Interval) → Example
  numbers_are : Graph → (orders : List (List ℕ)) → List ℕ → Example
  bytes_are : Graph → (orders : List (List ℕ)) → ℕ → Example
  says_are : Graph → (orders : List (List ℕ)) → (u v : ℕ) → Bool → Example

abbrev Right : Example → Type 0
Right (intervals_are g orders is) = let I : Index = index_of g orders in map (intervals_of (length I.groups)) I.labels ≡ is
Right (numbers_are g orders xs) = exception_numbers (index_of g orders) ≡ xs
Right (bytes_are g orders total) = length (encode_exceptions (index_of g orders)) ≡ total
Right (says_are g orders u v b) = says_by_exceptions (index_of g orders) u v ≡ b

abbrev table : List Example
table =
    -- the paper's intervals: of 1 [1, 6] and [1, 9], of 2 [1, 9] and [1, 7], of 3 [1, 4] and [1, 6], of 4 [1, 5] and [1, 8], of 5 [1, 8]
    intervals_are paper
    (rightwards ∷ leftwards ∷ [])
    ((interval 1 10 ∷ interval 1 6 ∷ interval 1 9 ∷ interval 1 4 ∷ interval 1 5 ∷ interval 1 8 ∷ interval 1 7 ∷ interval 1 3 ∷ interval 1 1 ∷ interval 2 2 ∷ [])
    ∷ (interval 1 10 ∷ interval 1 9 ∷ interval 1 7 ∷ interval 1 6 ∷ interval 1 8 ∷ interval 1 3 ∷ interval 1 2 ∷ interval 1 5 ∷ interval 1 1 ∷ interval 4 4 ∷ [])
    ∷ [])
    -- Table 2: 2 has 1 and 4, indirect; 4 has 3, 7, 9, direct; 5 has 1, 3, 4, 7, 9, indirect; 6 has the same, direct
    ∷ numbers_are paper
    (rightwards ∷ [])
    (10 ∷ 15 ∷ 0 ∷ 0 ∷ 0 ∷ 2 ∷ 2 ∷ 5 ∷ 10 ∷ 15 ∷ 15 ∷ 15 ∷ 15 ∷
    3 ∷ 9 ∷ 6 ∷ 14 ∷ 18 ∷ 3 ∷ 7 ∷ 9 ∷ 15 ∷ 19 ∷ 2 ∷ 6 ∷ 8 ∷ 14 ∷ 18 ∷ [])
    ∷ bytes_are paper (rightwards ∷ []) 112
    -- under two orders 3, 7, 9 stay, of one kind: twelve of fifteen are gone
    ∷ numbers_are paper (rightwards ∷ leftwards ∷ []) (10 ∷ 3 ∷ 0 ∷ 0 ∷ 0 ∷ 0 ∷ 0 ∷ 3 ∷ 3 ∷ 3 ∷ 3 ∷ 3 ∷ 3 ∷ 6 ∷ 14 ∷ 18 ∷ [])
    ∷ bytes_are paper (rightwards ∷ leftwards ∷ []) 64
    -- under one order taken twice all fifteen stay, of one kind
    ∷ numbers_are paper
    (rightwards ∷ rightwards ∷ [])
    (10 ∷ 15 ∷ 0 ∷ 0 ∷ 0 ∷ 2 ∷ 2 ∷ 5 ∷ 10 ∷ 15 ∷ 15 ∷ 15 ∷ 15 ∷
    2 ∷ 8 ∷ 6 ∷ 14 ∷ 18 ∷ 2 ∷ 6 ∷ 8 ∷ 14 ∷ 18 ∷ 2 ∷ 6 ∷ 8 ∷ 14 ∷ 18 ∷ [])
    -- the text's questions: 2 reaches neither 1 nor 4, and reaches 7; 5 reaches 8, so Table 2 is right where the text lists 8
    ∷ says_are paper (rightwards ∷ []) 2 1 false
    ∷ says_are paper (rightwards ∷ []) 2 4 false
    ∷ says_are paper (rightwards ∷ []) 2 7 true
    ∷ says_are paper (rightwards ∷ []) 5 8 true
    -- H: group 3 has 0 and 2, both direct; G: place 2, name 3, has place 1, direct
    ∷ numbers_are H (rising ∷ []) (4 ∷ 2 ∷ 0 ∷ 0 ∷ 0 ∷ 0 ∷ 2 ∷ 0 ∷ 4 ∷ [])
    ∷ bytes_are H (rising ∷ []) 36
    ∷ numbers_are G (A ∷ []) (5 ∷ 1 ∷ 0 ∷ 0 ∷ 0 ∷ 1 ∷ 1 ∷ 1 ∷ 2 ∷ [])
    ∷ bytes_are G (A ∷ []) 36
    ∷ numbers_are none ([] ∷ []) (0 ∷ 0 ∷ 0 ∷ [])
    ∷ bytes_are none ([] ∷ []) 12
    -- vertices of one group
    ∷ says_are G (A ∷ []) 2 1 true
    ∷ says_are G (A ∷ []) 3 1 false
    ∷ []

claim : Every Right table
unfolding index_of exception_numbers encode_exceptions says_by_exceptions
claim = (refl, (refl, (refl, (refl, (refl, (refl, (refl, (refl, (refl, (refl, (refl, (refl, (refl, (refl, (refl, (refl, (refl, (refl, tt))))))))))))))))))
