-- The rule desk's product (document 02, [11]): what becomes of a rule's state, of a table's, and of a call its checks in order, its answer, and what every lent buffer
-- holds afterwards. A table is told by its vertices and its states, record by record; rule numbers play no part.
use Rattle.std.specs.Prelude.{Bool, cond, List, [], ◌∷◌, ◌++◌, ℕ, suc, leb, length, get_or}
use Rattle.lineage.specs.Lists.{any}
use Rattle.lineage.specs.Graph.{leads}
use Rattle.lineage.specs.Index.{Index}
use Rattle.lineage.specs.Question.{place_in}
use Rattle.lineage.specs.Stored.{counts_in, decode}
use Rattle.lineage.specs.Sound.{contents_sound}
use Rattle.lineage.specs.Calls.{Check, check, Outcome, outcome, any_applies, FormsTaken, form_checks, contents_check, index_in, marks_after, work_after}

-- a state is a number: fresh, suspect or unknown; any other number is kept like a state that nothing touches
abbrev pub fresh : ℕ
fresh = 0

abbrev pub suspect : ℕ
suspect = 1

abbrev pub unknown : ℕ
unknown = 2

-- u reaches v, by a path of zero or more edges: so a changed vertex reaches itself
unfoldable pub reaches_in : Index → ℕ → ℕ → Bool
unfolding leads
reaches_in I u v = leads I.children (get_or I.levels (place_in I u) 0) (place_in I u) (place_in I v)

-- one of the changed vertices reaches v
unfoldable pub affected : Index → List ℕ → ℕ → Bool
unfolding reaches_in
affected I changed v = any (λ u. reaches_in I u v) changed

-- a record's state afterwards, by its vertex: unknown where that is n or more, suspect where a changed vertex reaches it, and otherwise what it was
unfoldable pub state_after : Index → List ℕ → (vertex state : ℕ) → ℕ
unfolding affected
state_after I changed vertex state = cond (leb (length I.names) vertex) unknown (cond (affected I changed vertex) suspect state)

-- each state turned by the vertex of its record; a state for which no vertex is lent is kept
abbrev pub each_state : (ℕ → ℕ → ℕ) → (vertices states : List ℕ) → List ℕ
each_state f [] states = states
each_state f (v ∷ vertices) [] = []
each_state f (v ∷ vertices) (s ∷ states) = f v s ∷ each_state f vertices states

unfoldable pub states_after : Index → List ℕ → (vertices states : List ℕ) → List ℕ
unfolding state_after
states_after I changed vertices states = each_state (state_after I changed) vertices states

-- where the first of a list that passes the test stands, from 0; the list's length where none does
abbrev pub position_of : (ℕ → Bool) → List ℕ → ℕ
position_of p [] = 0
position_of p (x ∷ xs) = cond (p x) 0 (suc (position_of p xs))

-- 10 to 13 and 6, then 14 with the position of the first changed vertex out of range
abbrev pub rules_early : FormsTaken → List ℕ → (changed : List ℕ) → (marks work : ℕ) → List Check
rules_early T b changed marks work =
    form_checks T b marks work ++ (check (any (leb (counts_in b).n) changed) 14 (position_of (leb (counts_in b).n) changed) ∷ [])

-- then 15
abbrev pub rules_checks : FormsTaken → List ℕ → (changed : List ℕ) → (marks work : ℕ) → List Check
rules_checks T b changed marks work = rules_early T b changed marks work ++ (contents_check b ∷ [])

-- done, or a refusal
unfoldable pub rules_answer : FormsTaken → List ℕ → (changed : List ℕ) → (marks work : ℕ) → Outcome (Unit {0})
unfolding contents_sound
rules_answer T b changed marks work = outcome (rules_checks T b changed marks work) tt

-- the states: unchanged by every refusal
unfoldable pub rule_states : FormsTaken → List ℕ → (changed : List ℕ) → (marks work : ℕ) → (vertices states : List ℕ) → List ℕ
unfolding contents_sound states_after decode
rule_states T b changed marks work vertices states =
    cond (any_applies (rules_checks T b changed marks work)) states (states_after (index_in b) changed vertices states)

-- marks and words: unchanged by 10 to 14 and 6; otherwise marks below n and the needed words are 0
unfoldable pub rules_marks : FormsTaken → List ℕ → (changed : List ℕ) → (marks : List ℕ) → (work : ℕ) → List ℕ
rules_marks T b changed marks work = marks_after (rules_early T b changed (length marks) work) b marks

unfoldable pub rules_work : FormsTaken → List ℕ → (changed : List ℕ) → (marks : ℕ) → (work : List ℕ) → List ℕ
rules_work T b changed marks work = work_after (rules_early T b changed marks (length work)) b work
