-- The chain asked of a stored index (document 02, [4]): the checks in order, the answer, and what every lent buffer holds afterwards.
use Rattle.std.specs.Prelude.{Bool, true, false, ◌&&◌, cond, List, [], ◌∷◌, ◌++◌, ℕ, ltb, length, drop}
use Rattle.lineage.specs.Stored.{decode}
use Rattle.lineage.specs.Sound.{contents_sound}
use Rattle.lineage.specs.Index.{Index}
use Rattle.lineage.specs.Question.{answer}
use Rattle.lineage.specs.Calls.{Check, check, Outcome, outcome, any_applies, FormsTaken, contents_check, index_in, marks_after, work_after, ask_early}
use Rattle.chain_steps.specs.Chain.{chain_of}

-- a no, or how many steps there are
pub data Traced : Type 0 where
  none : Traced
  steps : ℕ → Traced

-- by what a question says
abbrev pub traced_by : Bool → ℕ → Traced
traced_by true count = steps count
traced_by false count = none

-- the answer between two vertices
abbrev pub traced : Index → (source target : ℕ) → Traced
traced I source target = traced_by (answer I source target).says (length (chain_of I source target))

-- 16: on a yes, a list shorter than the chain; a no needs no room
abbrev pub room_checks : Index → (source target out : ℕ) → List Check
room_checks I source target out =
    let count : ℕ = length (chain_of I source target) in
    check ((answer I source target).says && ltb out count) 16 count ∷ []

-- the list behind them: a no writes nothing; past the last step it stays as it was
abbrev pub shown : Index → (source target : ℕ) → List ℕ → List ℕ
shown I source target out =
    let chain : List ℕ = chain_of I source target in
    cond (answer I source target).says (chain ++ drop (length chain) out) out

-- 15, then 16
abbrev pub chain_late : List ℕ → (source target out : ℕ) → List Check
chain_late b source target out = contents_check b ∷ room_checks (index_in b) source target out

-- the refusals of a question, then 16; a no, or how many steps
unfoldable pub chain_answer : FormsTaken → List ℕ → (source target marks work out : ℕ) → Outcome Traced
unfolding contents_sound answer chain_of decode
chain_answer T b source target marks work out =
    outcome (ask_early T b source target marks work ++ chain_late b source target out) (traced (index_in b) source target)

-- the list: unchanged by every refusal
unfoldable pub chain_output : FormsTaken → List ℕ → (source target marks work : ℕ) → (out : List ℕ) → List ℕ
unfolding contents_sound answer chain_of decode
chain_output T b source target marks work out =
    cond (any_applies (ask_early T b source target marks work ++ chain_late b source target (length out))) out (shown (index_in b) source target out)

unfoldable pub chain_marks : FormsTaken → List ℕ → (source target : ℕ) → (marks : List ℕ) → (work : ℕ) → List ℕ
chain_marks T b source target marks work = marks_after (ask_early T b source target (length marks) work) b marks

unfoldable pub chain_work : FormsTaken → List ℕ → (source target marks : ℕ) → (work : List ℕ) → List ℕ
chain_work T b source target marks work = work_after (ask_early T b source target marks (length work)) b work
