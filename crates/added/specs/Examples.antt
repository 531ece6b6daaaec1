-- Questions over added edges beside document 01's graph G, stored under order A at both forms, through every check; and adding one. One table, a single claim, by
-- computation.
use Rattle.std.specs.Prelude.{Bool, true, false, ◌≡◌, refl, List, [], ◌∷◌, ℕ}
use Rattle.lineage.specs.Lists.{Every}
use Rattle.lineage.specs.Graph.{Graph}
use Rattle.lineage.specs.Index.{index_of}
use Rattle.lineage.specs.Stored.{Form, form1, form2, encode}
use Rattle.lineage.specs.Calls.{Outcome, refused, answered, ordinary}
use Rattle.added.specs.declared.Added.{Added}
use Rattle.added.specs.Adding.{add_answer, add_state}
use Rattle.added.specs.Asked.{added_answer}

-- edges 0-1, 1-2, 2-1, 0-3, 3-4, 2-4, 5-5; order A is 0 to 5
abbrev G : Graph
G = record { n = 6; sources = 0 ∷ 1 ∷ 2 ∷ 0 ∷ 3 ∷ 2 ∷ 5 ∷ []; targets = 1 ∷ 2 ∷ 1 ∷ 3 ∷ 4 ∷ 4 ∷ 5 ∷ [] }

abbrev stored : Form → List ℕ
stored F = encode F (index_of G ((0 ∷ 1 ∷ 2 ∷ 3 ∷ 4 ∷ 5 ∷ []) ∷ []))

-- so many edges stand of the pairs
abbrev held : ℕ → (sources targets : List ℕ) → Added
held count sources targets = record { sources = sources; targets = targets; count = count }

-- a question, with marks and words enough
abbrev asked : Form → Added → (u v : ℕ) → Outcome Bool
asked F a u v = added_answer ordinary (stored F) a u v 6 200

-- an answer; a refusal with these marks and words
data Example : Type 0 where
  says : (a : Added) → (u v : ℕ) → Bool → Example
  refuses : (a : Added) → (u v marks work : ℕ) → (number extra : ℕ) → Example

abbrev AtForm : Form → Example → Type 0
AtForm F (says a u v b) = asked F a u v ≡ answered b
AtForm F (refuses a u v marks work number extra) = added_answer ordinary (stored F) a u v marks work ≡ refused number extra

abbrev Right : Example → Type 0
Right e = AtForm form1 e × AtForm form2 e

abbrev table : List Example
table =
    -- without added edges as a question says
    says (held 0 [] []) 0 4 true
    ∷ says (held 0 [] []) 3 2 false
    -- 4-3: the way goes down, along it, and nowhere else
    ∷ says (held 1 (4 ∷ []) (3 ∷ [])) 2 3 true
    ∷ says (held 1 (4 ∷ []) (3 ∷ [])) 2 5 false
    -- 3-5 behind 4-3: each opens the next, in whatever order they were added
    ∷ says (held 2 (3 ∷ 4 ∷ []) (5 ∷ 3 ∷ [])) 2 5 true
    ∷ says (held 2 (4 ∷ 3 ∷ []) (3 ∷ 5 ∷ [])) 2 5 true
    -- 4-0 closes a loop; its way back to 1 is open
    ∷ says (held 1 (4 ∷ []) (0 ∷ [])) 3 1 true
    -- a source that is not reached leads nowhere
    ∷ says (held 1 (5 ∷ []) (3 ∷ [])) 1 3 false
    -- what stands behind the count may be anything
    ∷ says (held 1 (4 ∷ 3 ∷ 99 ∷ []) (3 ∷ 5 ∷ 99 ∷ [])) 2 5 false
    -- 14 before 21 and 7; 21 before 7; 7 with the first bad one
    ∷ refuses (held 257 (9 ∷ []) (9 ∷ [])) 6 0 6 200 14 0
    ∷ refuses (held 257 (9 ∷ []) (9 ∷ [])) 0 6 6 200 14 1
    ∷ refuses (held 257 (9 ∷ []) (9 ∷ [])) 0 1 6 200 21 0
    ∷ refuses (held 3 (0 ∷ 1 ∷ 7 ∷ []) (0 ∷ 6 ∷ 7 ∷ [])) 0 1 6 200 7 1
    -- 13 before them
    ∷ refuses (held 257 [] []) 6 0 5 200 13 6
    ∷ []

-- adding: the pair stands at the old count; 7 before 21, and a refusal changes nothing
abbrev pair : Added
pair = held 1 (4 ∷ 7 ∷ []) (3 ∷ 7 ∷ [])

abbrev full : Added
full = held 256 (4 ∷ []) (3 ∷ [])

abbrev Adding : Type 0
Adding =
    (add_answer pair.count 6 3 5 ≡ answered tt)
    × ((add_state pair 6 3 5 ≡ held 2 (4 ∷ 3 ∷ []) (3 ∷ 5 ∷ []))
    × ((add_answer pair.count 6 6 5 ≡ refused 7 0)
    × ((add_state pair 6 3 6 ≡ pair)
    × ((add_answer full.count 6 0 6 ≡ refused 7 0) × ((add_answer full.count 6 0 5 ≡ refused 21 0) × (add_state full 6 0 5 ≡ full))))))

adding : Adding
adding = (refl, (refl, (refl, (refl, (refl, (refl, refl))))))

claim : Every Right table
unfolding index_of encode added_answer
claim = ((refl, refl), ((refl, refl), ((refl, refl), ((refl, refl), ((refl, refl), ((refl, refl), ((refl, refl), ((refl, refl), ((refl, refl), ((refl, refl), ((refl, refl), ((refl, refl), ((refl, refl), ((refl, refl), tt))))))))))))))
