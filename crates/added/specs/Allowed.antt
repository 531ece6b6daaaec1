-- What the calls may return and leave.
use Rattle.std.specs.Prelude.{Bool, ◌≡◌, List, ℕ, length, Result}
use Rattle.lineage.specs.Calls.{FormsTaken}
use Rattle.refusals.specs.declared.Refusal.{Refusal}
use Rattle.added.specs.declared.Added.{Added}
use Rattle.added.specs.declared.Adding.{Adding}
use Rattle.added.specs.Adding.{add_answer, add_state, taken_of}
use Rattle.added.specs.Asked.{added_answer, added_marks, added_work, asked_added_of}

-- of a state, n and an edge: what may be answered, and the state afterwards
pub record Adds (state : Added) (n from to : ℕ) (r : Adding) : Type 0 where
  pub answers : taken_of r.answer ≡ add_answer state.count n from to
  pub changes : r.state ≡ add_state state n from to

-- of the forms taken, bytes, added edges, source, target, marks and words: what may be answered, and what marks and words may hold afterwards
pub record Allowed (T : FormsTaken) (b : List ℕ) (state : Added) (source target : ℕ) (marks work : List ℕ) (r : Result Bool Refusal) (marks' work' : List ℕ) : Type 0 where
  pub answers : asked_added_of r ≡ added_answer T b state source target (length marks) (length work)
  pub leaves : marks' ≡ added_marks T b source target marks (length work)
  pub clears : work' ≡ added_work T b source target (length marks) work
