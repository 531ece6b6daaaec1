-- Tables of rules after a retrain, and every refusal in order: one table, a single claim, by computation. The calls are made on stored bytes, through every check, at
-- both forms.
use Rattle.std.specs.Prelude.{◌≡◌, refl, List, [], ◌∷◌, ◌++◌, ℕ, set, replicate, take}
use Rattle.lineage.specs.Lists.{Every, cleared}
use Rattle.lineage.specs.Graph.{Graph}
use Rattle.lineage.specs.Index.{index_of}
use Rattle.lineage.specs.Stored.{Form, form1, form2, encode}
use Rattle.lineage.specs.Calls.{Outcome, refused, answered, ordinary}
use Rattle.rules_states.specs.Rules.{fresh, suspect, unknown, rules_answer, rule_states, rules_marks, rules_work}

-- n = 4, edges 0-1, 1-0, 1-2, 3-3: 0 and 1 are one group, and lead to 2; 3 leads nowhere else
abbrev graph : Graph
graph = record { n = 4; sources = 0 ∷ 1 ∷ 1 ∷ 3 ∷ []; targets = 1 ∷ 0 ∷ 2 ∷ 3 ∷ [] }

abbrev stored : Form → List ℕ
stored F = encode F (index_of graph ((0 ∷ 1 ∷ 2 ∷ 3 ∷ []) ∷ []))

-- the same with another name for vertex 1, which has 0's
abbrev unsound1 : List ℕ
unsound1 = set (stored form1) 50 1

abbrev unsound2 : List ℕ
unsound2 = set (stored form2) 52 1

-- a buffer lent with 7 in each of its elements
abbrev lent : ℕ → List ℕ
lent size = replicate size 7

data Example : Type 0 where
  -- the states of these records after a retrain, at both forms, with marks, and at form 2 words, cleared as far as needed
  settles : (changed vertices states after : List ℕ) → Example
  -- a refusal for bytes and so many marks and words, with what marks and words hold afterwards; no state changes
  refuses : (bytes changed : List ℕ) → (marks work : ℕ) → (number extra : ℕ) → (marks' work' : List ℕ) → Example

abbrev At : List ℕ → List ℕ → (marks work : ℕ) → (vertices states after : List ℕ) → Outcome (Unit {0}) → (marks' work' : List ℕ) → Type 0
At bytes changed marks work vertices states after o marks' work' =
    (rules_answer ordinary bytes changed marks work ≡ o)
    × (rule_states ordinary bytes changed marks work vertices states ≡ after)
    × (rules_marks ordinary bytes changed (lent marks) work ≡ marks')
    × (rules_work ordinary bytes changed marks (lent work) ≡ work')

abbrev Right : Example → Type 0
Right (settles changed vertices states after) =
    At (stored form1) changed 5 1 vertices states after (answered tt) (replicate 4 0 ++ lent 1) (lent 1)
    × At (stored form2) changed 5 133 vertices states after (answered tt) (replicate 4 0 ++ lent 1) (replicate 132 0 ++ lent 1)
Right (refuses bytes changed marks work number extra marks' work') =
    At bytes changed marks work (0 ∷ 4 ∷ []) (fresh ∷ fresh ∷ []) (fresh ∷ fresh ∷ []) (refused number extra) marks' work'

abbrev table : List Example
table =
    -- a changed vertex reaches its group, itself included, and what is below; a vertex of n or more is unknown
    settles (1 ∷ []) (0 ∷ 1 ∷ 2 ∷ 3 ∷ 4 ∷ []) (fresh ∷ fresh ∷ fresh ∷ fresh ∷ fresh ∷ []) (suspect ∷ suspect ∷ suspect ∷ fresh ∷ unknown ∷ [])
    ∷ settles (2 ∷ []) (2 ∷ 1 ∷ 0 ∷ []) (fresh ∷ fresh ∷ fresh ∷ []) (suspect ∷ fresh ∷ fresh ∷ [])
    -- a group of one that has only a self-loop, and records of one vertex
    ∷ settles (3 ∷ []) (3 ∷ 2 ∷ 3 ∷ []) (fresh ∷ fresh ∷ unknown ∷ []) (suspect ∷ fresh ∷ suspect ∷ [])
    -- several, in any order and repeated
    ∷ settles (2 ∷ 3 ∷ 2 ∷ []) (0 ∷ 2 ∷ 3 ∷ []) (fresh ∷ fresh ∷ fresh ∷ []) (fresh ∷ suspect ∷ suspect ∷ [])
    ∷ settles (3 ∷ 2 ∷ []) (0 ∷ 2 ∷ 3 ∷ []) (fresh ∷ fresh ∷ fresh ∷ []) (fresh ∷ suspect ∷ suspect ∷ [])
    -- all others keep their state, whatever number it is
    ∷ settles (2 ∷ []) (0 ∷ 1 ∷ 3 ∷ []) (suspect ∷ unknown ∷ 9 ∷ []) (suspect ∷ unknown ∷ 9 ∷ [])
    -- nothing has changed: only vertices of n or more are looked at
    ∷ settles [] (0 ∷ 4 ∷ 1 ∷ 9 ∷ []) (suspect ∷ fresh ∷ unknown ∷ 9 ∷ []) (suspect ∷ unknown ∷ unknown ∷ unknown ∷ [])
    -- as far as both lists go
    ∷ settles (2 ∷ []) (2 ∷ []) (fresh ∷ fresh ∷ []) (suspect ∷ fresh ∷ [])
    ∷ settles (2 ∷ []) (2 ∷ 2 ∷ []) (fresh ∷ []) (suspect ∷ [])
    -- refusals in order: in each row the next check applies too
    ∷ refuses (take 47 (set (stored form1) 0 3)) (4 ∷ []) 3 0 10 0 (lent 3) (lent 0)
    ∷ refuses (take 48 (set (stored form2) 0 3)) (4 ∷ []) 3 0 11 3 (lent 3) (lent 0)
    ∷ refuses (take 48 (stored form1)) (4 ∷ []) 3 0 12 0 (lent 3) (lent 0)
    ∷ refuses unsound1 (4 ∷ []) 3 0 13 4 (lent 3) (lent 0)
    ∷ refuses unsound2 (4 ∷ []) 3 131 13 4 (lent 3) (lent 131)
    ∷ refuses unsound2 (4 ∷ []) 5 131 6 132 (lent 5) (lent 131)
    ∷ refuses unsound1 (0 ∷ 4 ∷ 9 ∷ []) 5 0 14 1 (lent 5) (lent 0)
    ∷ refuses unsound2 (0 ∷ 1 ∷ 4 ∷ []) 5 133 14 2 (lent 5) (lent 133)
    ∷ refuses unsound1 (0 ∷ []) 5 1 15 0 (replicate 4 0 ++ lent 1) (lent 1)
    ∷ refuses unsound2 [] 5 133 15 0 (replicate 4 0 ++ lent 1) (replicate 132 0 ++ lent 1)
    ∷ []

claim : Every Right table
unfolding index_of encode cleared rules_answer rule_states rules_marks rules_work
claim =
    (((refl, refl, refl, refl), (refl, refl, refl, refl)), (((refl, refl, refl, refl), (refl, refl, refl, refl)), (((refl, refl, refl, refl), (refl, refl, refl, refl)), (((refl, refl, refl, refl), (refl, refl, refl, refl)), (((refl, refl, refl, refl), (refl, refl, refl, refl)), (((refl, refl, refl, refl), (refl, refl, refl, refl)), (((refl, refl, refl, refl), (refl, refl, refl, refl)), (((refl, refl, refl, refl), (refl, refl, refl, refl)), (((refl, refl, refl, refl), (refl, refl, refl, refl)), ((refl, refl, refl, refl), ((refl, refl, refl, refl), ((refl, refl, refl, refl), ((refl, refl, refl, refl), ((refl, refl, refl, refl), ((refl, refl, refl, refl), ((refl, refl, refl, refl), ((refl, refl, refl, refl), ((refl, refl, refl, refl), ((refl, refl, refl, refl), tt)))))))))))))))))))
