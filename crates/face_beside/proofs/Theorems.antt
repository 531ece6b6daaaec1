-- What a program in C may rely on that keeps added edges or the states of rules beside an index: the outcomes of the definitions are read off the numbers, and two results
-- that the contracts allow are equal. How the rules' numbers are read stands with their table (`settled_read` of rules_table).
use mathlib.Core.Path.{◌≡◌, refl, sym, ◌∙◌}
use mathlib.Core.List.{List, ◌++◌}
use Prim.Native.Nat.{ℕ}
use native.Mathlib.Omega.{arith}
use lib.ListN.{length}
use borrow.Author.Tests.{ne_eqb}
use Rattle.lineage.specs.Calls.{Outcome, refused, answered, FormsTaken, index_in, ask_early}
use Rattle.reach_rounds.specs.Over.{added_says}
use Rattle.added.specs.declared.Added.{Added}
use Rattle.added.specs.Adding.{add_checks, add_answer, add_state}
use Rattle.added.specs.Asked.{sources_of, targets_of, added_late, added_answer, added_marks, added_work}
use Rattle.rules_states.specs.Rules.{rules_answer, rules_marks, rules_work, rule_states}
use Rattle.rules_table.specs.declared.RulesSettled.{RulesSettled}
use Rattle.rules_table.specs.Table.{desk_settled}
use Rattle.face.specs.declared.DrobistenSaid.{DrobistenSaid}
use Rattle.face.specs.Host.{host_said, said_by}
use Rattle.face.proofs.Theorems.{Numbered, numbered, said_back}
use Rattle.face_beside.specs.declared.DrobistenTaken.{DrobistenTaken}
use Rattle.face_beside.specs.Taken.{host_taken, taken_by}

-- an outcome whose refusal is not 0 is read back
taken_back : (o : Outcome (Unit {0})) (after : Added) → Numbered o → taken_by (host_taken o after) ≡ o
taken_back (refused number extra) after some = rw (ne_eqb number 0 (λ e. omega arith)) refl
taken_back (answered done) after some = refl

pub taken_read : (count n from to : ℕ) (after : Added) → taken_by (host_taken (add_answer count n from to) after) ≡ add_answer count n from to
taken_read count n from to after =
    taken_back (add_answer count n from to) after (numbered (tt {0}) (add_checks count n from to) (omega arith, (omega arith, tt)))

pub said_read : (T : FormsTaken) (b : List ℕ) (state : Added) (u v m w : ℕ) → said_by (host_said (added_answer T b state u v m w)) ≡ added_answer T b state u v m w
unfolding added_answer
said_read T b state u v m w =
    said_back (added_answer T b state u v m w)
    (numbered (added_says (index_in b) (sources_of state) (targets_of state) u v) (ask_early T b u v m w ++ added_late b state)
    (omega arith, (omega arith, (omega arith, (omega arith, (omega arith, (omega arith, (omega arith, (omega arith, (omega arith, (omega arith, tt)))))))))))

-- what `drobisten_add`, `drobisten_ask_added` and `drobisten_settle_lists` may return and leave, by their contracts; the first lends nothing
pub record Adds (state : Added) (n from to : ℕ) (r : DrobistenTaken) : Type 0 where
  pub returns : r ≡ host_taken (add_answer state.count n from to) (add_state state n from to)

pub record AsksAdded (T : FormsTaken) (b : List ℕ) (state : Added) (u v : ℕ) (marks work : List ℕ) (r : DrobistenSaid) (m w : List ℕ) : Type 0 where
  pub returns : r ≡ host_said (added_answer T b state u v (length marks) (length work))
  pub leaves : m ≡ added_marks T b u v marks (length work)
  pub clears : w ≡ added_work T b u v (length marks) work

pub record SettlesLists (T : FormsTaken) (b changed marks work vertices states : List ℕ) (r : RulesSettled) (m w s : List ℕ) : Type 0 where
  pub returns : r ≡ desk_settled (rules_answer T b changed (length marks) (length work))
  pub leaves : m ≡ rules_marks T b changed marks (length work)
  pub clears : w ≡ rules_work T b changed (length marks) work
  pub turns : s ≡ rule_states T b changed (length marks) (length work) vertices states

-- two results are equal
pub taken_once : {state : Added} {n from to : ℕ} {r r' : DrobistenTaken} → Adds state n from to r → Adds state n from to r' → r ≡ r'
taken_once A B = A.returns ∙ sym B.returns

pub said_once :
    {T : FormsTaken} {b : List ℕ} {state : Added} {u v : ℕ} {marks work : List ℕ} {r r' : DrobistenSaid} {m m' w w' : List ℕ}
    → AsksAdded T b state u v marks work r m w → AsksAdded T b state u v marks work r' m' w' → (r ≡ r') × ((m ≡ m') × (w ≡ w'))
said_once A B = (A.returns ∙ sym B.returns, (A.leaves ∙ sym B.leaves, A.clears ∙ sym B.clears))

pub lists_settled_once :
    {T : FormsTaken} {b changed marks work vertices states : List ℕ} {r r' : RulesSettled} {m m' w w' s s' : List ℕ}
    → SettlesLists T b changed marks work vertices states r m w s → SettlesLists T b changed marks work vertices states r' m' w' s'
    → (r ≡ r') × ((m ≡ m') × ((w ≡ w') × (s ≡ s')))
lists_settled_once A B = (A.returns ∙ sym B.returns, (A.leaves ∙ sym B.leaves, (A.clears ∙ sym B.clears, A.turns ∙ sym B.turns)))
