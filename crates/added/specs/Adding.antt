-- Adding an edge between two builds (document 02, [10]): the checks in order, the answer, and the pairs and the count afterwards.
use Rattle.std.specs.Prelude.{◌||◌, cond, List, [], ◌∷◌, ℕ, ◌+◌, leb, set, Result}
use Rattle.lineage.specs.Calls.{Check, check, Outcome, outcome, any_applies}
use Rattle.refusals.specs.declared.Refusal.{Refusal}
use Rattle.refusals.specs.Refusals.{outcome_by}
use Rattle.added.specs.declared.Added.{Added}

-- the most edges that may be added
abbrev pub most_added : ℕ
most_added = 256

-- 7 for an end that is n or more, then 21 where 256 or more stand
abbrev pub add_checks : (count n from to : ℕ) → List Check
add_checks count n from to = check (leb n from || leb n to) 7 0 ∷ check (leb most_added count) 21 0 ∷ []

-- done, or a refusal
abbrev pub add_answer : (count n from to : ℕ) → Outcome (Unit {0})
add_answer count n from to = outcome (add_checks count n from to) tt

-- unchanged by a refusal; otherwise the pair stands at the old count, and the count is one more
abbrev pub add_state : Added → (n from to : ℕ) → Added
add_state a n from to =
    cond (any_applies (add_checks a.count n from to))
    a
    (record { sources = set a.sources a.count from; targets = set a.targets a.count to; count = a.count + 1 })

-- the number and values that the document gives each case
abbrev pub taken_of : Result (Unit {0}) Refusal → Outcome (Unit {0})
taken_of r = outcome_by (λ (done : Unit {0}). done) r
