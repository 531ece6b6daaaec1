-- A question over an index and the edges added beside it (document 02, [10]): the checks in order, the answer, and what every lent buffer holds afterwards. Of the pairs
-- only the first `count` are looked at.
use Rattle.std.specs.Prelude.{Bool, List, [], ◌∷◌, ◌++◌, ℕ, ltb, length, take, Result}
use Rattle.lineage.specs.Lists.{upto, any, first_of}
use Rattle.lineage.specs.Graph.{Graph}
use Rattle.lineage.specs.Stored.{counts_in, decode}
use Rattle.lineage.specs.Sound.{contents_sound}
use Rattle.lineage.specs.Calls.{Check, check, Outcome, outcome, FormsTaken, bad_edge, contents_check, index_in, marks_after, work_after, ask_early}
use Rattle.refusals.specs.declared.Refusal.{Refusal}
use Rattle.refusals.specs.Refusals.{outcome_by}
use Rattle.build_orders.specs.Input.{graph_of}
use Rattle.reach_rounds.specs.Over.{added_says}
use Rattle.added.specs.declared.Added.{Added}
use Rattle.added.specs.Adding.{most_added}

-- those that stand: the first `count`
abbrev pub standing : Added → List ℕ → List ℕ
standing a ends = take a.count ends

-- the added edges
abbrev pub sources_of : Added → List ℕ
sources_of a = standing a a.sources

abbrev pub targets_of : Added → List ℕ
targets_of a = standing a a.targets

-- 21 for more than 256 added edges
abbrev pub many_added : Added → Check
many_added a = check (ltb most_added a.count) 21 0

-- 7 with the first bad one
abbrev pub bad_added : Graph → Check
bad_added G = check (any (bad_edge G) (upto (length G.sources))) 7 (first_of (bad_edge G) (upto (length G.sources)) 0)

-- the one, then the other, beside n vertices
abbrev pub added_checks : ℕ → Added → List Check
added_checks n a = many_added a ∷ bad_added (graph_of n (sources_of a) (targets_of a)) ∷ []

-- 15, then these
abbrev pub added_late : List ℕ → Added → List Check
added_late b a = contents_check b ∷ added_checks (counts_in b).n a

-- the refusals of a question, then 21 and 7; yes or no only
unfoldable pub added_answer : FormsTaken → List ℕ → Added → (source target marks work : ℕ) → Outcome Bool
unfolding contents_sound added_says decode
added_answer T b a source target marks work =
    outcome (ask_early T b source target marks work ++ added_late b a) (added_says (index_in b) (sources_of a) (targets_of a) source target)

unfoldable pub added_marks : FormsTaken → List ℕ → (source target : ℕ) → (marks : List ℕ) → (work : ℕ) → List ℕ
added_marks T b source target marks work = marks_after (ask_early T b source target (length marks) work) b marks

unfoldable pub added_work : FormsTaken → List ℕ → (source target marks : ℕ) → (work : List ℕ) → List ℕ
added_work T b source target marks work = work_after (ask_early T b source target marks (length work)) b work

-- the number and values that the document gives each case
abbrev pub asked_added_of : Result Bool Refusal → Outcome Bool
asked_added_of r = outcome_by (λ (says : Bool). says) r
