-- What a program in C may rely on that opens, asks and converts: two results that the contracts allow are equal, and yes is 1 exactly where a path exists. How the numbers
-- of opening and asking are read stands with the structs (`opened_read`, `asked_read`, `asked_all_read` of face).
use mathlib.Core.Logic.{◌↔◌}
use mathlib.Core.Path.{◌≡◌, sym, ◌∙◌}
use mathlib.Core.List.{List, ◌++◌}
use Prim.Native.Nat.{ℕ}
use native.Mathlib.Omega.{arith}
use lib.ListN.{length}
use Rattle.lineage.specs.Graph.{Reaches}
use Rattle.lineage.specs.Index.{Made}
use Rattle.lineage.specs.Stored.{form_of}
use Rattle.lineage.specs.Question.{place_in}
use Rattle.lineage.specs.Calls.{FormsTaken, open_answer, open_marks, open_work, index_in, ask_answer, ask_marks, ask_work}
use Rattle.laws_answers.specs.Answers.{Deciding}
use Rattle.ask_all.specs.Batch.{batch_answer, batch_answers, batch_marks, batch_work}
use Rattle.convert.specs.Convert.{converted, convert_early, convert_late, convert_answer, convert_marks, convert_work, convert_output}
use Rattle.face.specs.declared.DrobistenOpened.{DrobistenOpened}
use Rattle.face.specs.declared.DrobistenAsked.{DrobistenAsked}
use Rattle.face.specs.declared.DrobistenAskedAll.{DrobistenAskedAll}
use Rattle.face.specs.declared.DrobistenCounted.{DrobistenCounted}
use Rattle.face.specs.Host.{host_opened, host_asked, host_asked_all, host_counted, counted_by}
use Rattle.face.proofs.Theorems.{numbered, counted_back, yes_right, labelling_decides}

-- what `drobisten_inspect`, `drobisten_question` and `drobisten_batch` may return and leave, and those on a turned index, by their contracts
pub record Inspects (T : FormsTaken) (b marks work : List ℕ) (r : DrobistenOpened) (m w : List ℕ) : Type 0 where
  pub returns : r ≡ host_opened (open_answer T b (length marks) (length work))
  pub leaves : m ≡ open_marks T b marks (length work)
  pub clears : w ≡ open_work T b (length marks) work

pub record Questions (T : FormsTaken) (b : List ℕ) (u v : ℕ) (marks work : List ℕ) (r : DrobistenAsked) (m w : List ℕ) : Type 0 where
  pub returns : r ≡ host_asked (ask_answer T b u v (length marks) (length work))
  pub leaves : m ≡ ask_marks T b u v marks (length work)
  pub clears : w ≡ ask_work T b u v (length marks) work

pub record Batches (T : FormsTaken) (b sources targets marks work answers : List ℕ) (r : DrobistenAskedAll) (m w a : List ℕ) : Type 0 where
  pub returns : r ≡ host_asked_all (batch_answer T b sources targets (length marks) (length work) (length answers))
  pub leaves : m ≡ batch_marks T b sources targets marks (length work) (length answers)
  pub clears : w ≡ batch_work T b (length marks) work
  pub writes : a ≡ batch_answers T b sources targets (length marks) (length work) answers

-- and the conversions; `drobisten_convert_up` is lent no words
pub record ConvertsUp (b marks out : List ℕ) (r : DrobistenCounted) (m o : List ℕ) : Type 0 where
  pub returns : r ≡ host_counted (convert_answer 1 2 b (length marks) 0 (length out))
  pub leaves : m ≡ convert_marks 1 b marks 0
  pub writes : o ≡ convert_output 1 2 b (length marks) 0 out

pub record ConvertsDown (b marks work out : List ℕ) (r : DrobistenCounted) (m w o : List ℕ) : Type 0 where
  pub returns : r ≡ host_counted (convert_answer 2 1 b (length marks) (length work) (length out))
  pub leaves : m ≡ convert_marks 2 b marks (length work)
  pub clears : w ≡ convert_work 2 b (length marks) work
  pub writes : o ≡ convert_output 2 1 b (length marks) (length work) out

-- two results are equal
pub inspected_once :
    {T : FormsTaken} {b marks work : List ℕ} {r r' : DrobistenOpened} {m m' w w' : List ℕ}
    → Inspects T b marks work r m w → Inspects T b marks work r' m' w' → (r ≡ r') × ((m ≡ m') × (w ≡ w'))
inspected_once A B = (A.returns ∙ sym B.returns, (A.leaves ∙ sym B.leaves, A.clears ∙ sym B.clears))

pub questioned_once :
    {T : FormsTaken} {b : List ℕ} {u v : ℕ} {marks work : List ℕ} {r r' : DrobistenAsked} {m m' w w' : List ℕ}
    → Questions T b u v marks work r m w → Questions T b u v marks work r' m' w' → (r ≡ r') × ((m ≡ m') × (w ≡ w'))
questioned_once A B = (A.returns ∙ sym B.returns, (A.leaves ∙ sym B.leaves, A.clears ∙ sym B.clears))

pub batched_once :
    {T : FormsTaken} {b sources targets marks work answers : List ℕ} {r r' : DrobistenAskedAll} {m m' w w' a a' : List ℕ}
    → Batches T b sources targets marks work answers r m w a → Batches T b sources targets marks work answers r' m' w' a'
    → (r ≡ r') × ((m ≡ m') × ((w ≡ w') × (a ≡ a')))
batched_once A B = (A.returns ∙ sym B.returns, (A.leaves ∙ sym B.leaves, (A.clears ∙ sym B.clears, A.writes ∙ sym B.writes)))

pub converted_up_once :
    {b marks out : List ℕ} {r r' : DrobistenCounted} {m m' o o' : List ℕ}
    → ConvertsUp b marks out r m o → ConvertsUp b marks out r' m' o' → (r ≡ r') × ((m ≡ m') × (o ≡ o'))
converted_up_once A B = (A.returns ∙ sym B.returns, (A.leaves ∙ sym B.leaves, A.writes ∙ sym B.writes))

pub converted_down_once :
    {b marks work out : List ℕ} {r r' : DrobistenCounted} {m m' w w' o o' : List ℕ}
    → ConvertsDown b marks work out r m w o → ConvertsDown b marks work out r' m' w' o' → (r ≡ r') × ((m ≡ m') × ((w ≡ w') × (o ≡ o')))
converted_down_once A B = (A.returns ∙ sym B.returns, (A.leaves ∙ sym B.leaves, (A.clears ∙ sym B.clears, A.writes ∙ sym B.writes)))

-- the outcome of a conversion is read off the numbers
pub converted_read : (from to : ℕ) (b : List ℕ) (m w o : ℕ) → counted_by (host_counted (convert_answer from to b m w o)) ≡ convert_answer from to b m w o
unfolding convert_answer
converted_read from to b m w o =
    counted_back (convert_answer from to b m w o)
    (numbered (length (converted (form_of to) b)) (convert_early from b m w ++ convert_late to b o)
    (omega arith, (omega arith, (omega arith, (omega arith, (omega arith, (omega arith, (omega arith, (omega arith, tt)))))))))

-- Of an answer, which is where the refusal is 0; of a turned index a path leads in the turned edges.
module _
    {T : FormsTaken} {b : List ℕ} {u v : ℕ} {marks work : List ℕ} {r : DrobistenAsked} {m w : List ℕ}
    (A : Questions T b u v marks work r m w) (none : r.refusal ≡ 0) where
  pub question_right : (M : Made (index_in b)) → (r.yes ≡ 1) ↔ Reaches M.graph u v
  question_right = yes_right T b u v marks (length work) A.returns none

  pub question_deciding : Deciding (index_in b) (place_in (index_in b) u) (place_in (index_in b) v) r.reason r.labelling
  question_deciding = labelling_decides T b u v marks (length work) A.returns none
