-- What the rule desk may rely on. The call on its table and the call on parallel lists agree: the same answer, marks and words, and the table's states are those of the
-- lists; rule numbers and vertices never change. So each record's state is as the document tells, in whatever graph yields the bytes; changed vertices may be treated
-- one at a time, in any order, by calls in sequence; and two results that the contract allows are equal.
use mathlib.Core.Bool.{Bool, true, false, cond}
use mathlib.Core.Path.{◌≡◌, refl, sym, ap, subst⁻¹, ◌∙◌}
use mathlib.Core.List.{List, [], ◌∷◌, ◌++◌, map}
use Prim.Native.Nat.{ℕ, ◌<◌}
use native.Mathlib.Omega.{arith}
use lib.ListN.{length, get_or}
use borrow.Author.Tests.{ne_eqb}
use Rattle.lineage.specs.Index.{Index, index_of, Made}
use Rattle.lineage.specs.Stored.{Form, counts_of, counts_fit}
use Rattle.lineage.specs.Calls.{Outcome, refused, answered, any_applies, FormsTaken, index_in}
use Rattle.laws.specs.Checks.{Told}
use Rattle.laws.proofs.Checks.{outcome_told}
use Rattle.laws.proofs.Lists.{get_d_mapped}
use Rattle.open.specs.Yields.{Yields}
use Rattle.open.proofs.Fits.{Wide}
use Rattle.rules_states.specs.Rules.{state_after, states_after, rules_checks, rules_answer, rule_states}
use Rattle.rules_states.specs.After.{After, SameMembers, Turning, OneByOne, Steady}
use Rattle.rules_states.proofs.After.{state_right}
use Rattle.rules_states.proofs.OneByOne.{state_joins, state_members, one_by_one}
use Rattle.std.specs.Prelude.{Result}
use Rattle.rules.specs.declared.SettleRefusal.{SettleRefusal}
use Rattle.rules.specs.Settled as lists
use Rattle.rules.proofs.Theorems.{yields_made, settled_pass, settled_none, settled_range}
use Rattle.rules_table.specs.declared.Rule.{Rule}
use Rattle.rules_table.specs.declared.RulesSettled.{RulesSettled}
use Rattle.rules_table.specs.Table.{with_state, rule_after, rule_table, desk_settled, settled_by, Allowed, no_rule}
use Rattle.rules_table.proofs.Settling.{table_same}

-- the columns of a table
abbrev pub numbers_of : List Rule → List ℕ
numbers_of table = map (λ r. r.rule) table

abbrev pub vertices_of : List Rule → List ℕ
vertices_of table = map (λ r. r.vertex) table

abbrev pub states_of : List Rule → List ℕ
states_of table = map (λ r. r.state) table

module _ (I : Index) (changed : List ℕ) where
  numbers_kept : (table : List Rule) → numbers_of (map (rule_after I changed) table) ≡ numbers_of table
  unfolding rule_after
  numbers_kept [] = refl
  numbers_kept (r ∷ table) = ap (r.rule ∷◌) (numbers_kept table)

  vertices_kept : (table : List Rule) → vertices_of (map (rule_after I changed) table) ≡ vertices_of table
  unfolding rule_after
  vertices_kept [] = refl
  vertices_kept (r ∷ table) = ap (r.vertex ∷◌) (vertices_kept table)

  states_same : (table : List Rule) → states_of (map (rule_after I changed) table) ≡ states_after I changed (vertices_of table) (states_of table)
  unfolding rule_after states_after
  states_same [] = refl
  states_same (r ∷ table) = ap (state_after I changed r.vertex r.state ∷◌) (states_same table)

-- rule numbers and vertices never change, and the states are those of the call on parallel lists
module _ (T : FormsTaken) (b changed : List ℕ) (marks work : ℕ) (table : List Rule) where
  pub table_numbers : numbers_of (rule_table T b changed marks work table) ≡ numbers_of table
  unfolding rule_table
  table_numbers = at (any_applies (rules_checks T b changed marks work))
    where
      at : (t : Bool) → numbers_of (cond t table (map (rule_after (index_in b) changed) table)) ≡ numbers_of table
      at true = refl
      at false = numbers_kept (index_in b) changed table

  pub table_vertices : vertices_of (rule_table T b changed marks work table) ≡ vertices_of table
  unfolding rule_table
  table_vertices = at (any_applies (rules_checks T b changed marks work))
    where
      at : (t : Bool) → vertices_of (cond t table (map (rule_after (index_in b) changed) table)) ≡ vertices_of table
      at true = refl
      at false = vertices_kept (index_in b) changed table

  pub table_states : states_of (rule_table T b changed marks work table) ≡ rule_states T b changed marks work (vertices_of table) (states_of table)
  unfolding rule_table rule_states
  table_states = at (any_applies (rules_checks T b changed marks work))
    where
      at : (t : Bool) → states_of (cond t table (map (rule_after (index_in b) changed) table)) ≡ cond t (states_of table) (states_after (index_in b) changed (vertices_of table) (states_of table))
      at true = refl
      at false = states_same (index_in b) changed table

-- what the desk is given, read back
abbrev Some : ℕ → ℕ → Type 0
Some number extra = 0 < number

abbrev Any : Unit {0} → Type 0
Any a = Unit {0}

settled_back : (o : Outcome (Unit {0})) → Told Some Any o → settled_by (desk_settled o) ≡ o
settled_back (refused number extra) some = rw (ne_eqb number 0 (λ e. omega arith)) refl
settled_back (answered done) some = refl

pub settled_read : (T : FormsTaken) (b changed : List ℕ) (marks work : ℕ) → settled_by (desk_settled (rules_answer T b changed marks work)) ≡ rules_answer T b changed marks work
unfolding rules_answer
settled_read T b changed marks work =
    settled_back (rules_answer T b changed marks work)
    (outcome_told (tt {0}) Some Any (rules_checks T b changed marks work)
    (omega arith, (omega arith, (omega arith, (omega arith, (omega arith, (omega arith, (omega arith, tt))))))) tt)

-- the two calls agree
pub calls_agree :
    {T : FormsTaken} {b changed marks work m w m' w' s' : List ℕ} {table t : List Rule} {r : RulesSettled} {r' : Result (Unit {0}) SettleRefusal}
    → Allowed T b changed marks work table r m w t → lists.Allowed T b changed marks work (vertices_of table) (states_of table) r' m' w' s'
    → (settled_by r ≡ lists.settled_of r') × ((m ≡ m') × ((w ≡ w') × (states_of t ≡ s')))
calls_agree {T} {b} {changed} {marks} {work} {table = table} A B = (
  ap settled_by A.answers ∙ settled_read T b changed (length marks) (length work) ∙ sym B.answers,
  (
    A.leaves ∙ sym B.leaves,
    (A.clears ∙ sym B.clears, ap states_of A.turns ∙ table_states T b changed (length marks) (length work) table ∙ sym B.turns),
  ),
)

-- a call that is done
module _ {T : FormsTaken} {b changed marks work m w : List ℕ} {table t : List Rule} {r : RulesSettled} (A : Allowed T b changed marks work table r m w t) (none : r.refusal ≡ 0) where
  answer_done : rules_answer T b changed (length marks) (length work) ≡ answered tt
  answer_done =
      sym (settled_read T b changed (length marks) (length work))
      ∙ ap settled_by (sym A.answers)
      ∙ rw none refl

  turned : t ≡ map (rule_after (index_in b) changed) table
  unfolding rule_table
  turned = A.turns ∙ rw (settled_none T b changed (length marks) (length work) answer_done) refl

  -- the state of record i is as the document tells, in whatever graph yields the bytes
  pub table_right : (M : Made (index_in b)) (i : ℕ) → i < length table
      → After M.graph changed (get_or table i no_rule).vertex (get_or table i no_rule).state (get_or t i no_rule).state
  unfolding rule_after
  table_right M i h =
      subst⁻¹ (After M.graph changed (get_or table i no_rule).vertex (get_or table i no_rule).state)
      (ap (λ (xs : List Rule). (get_or xs i no_rule).state) turned ∙ ap (λ (x : Rule). x.state) (get_d_mapped (rule_after (index_in b) changed) table i no_rule no_rule h))
      (state_right M changed (settled_range T b changed (length marks) (length work) answer_done) (get_or table i no_rule).vertex (get_or table i no_rule).state)

  pub table_yielded : {F : Form} → Wide F → (Y : Yields F b) → counts_fit F (counts_of (index_of Y.graph Y.orders)) ≡ true → (i : ℕ) → i < length table
      → After Y.graph changed (get_or table i no_rule).vertex (get_or table i no_rule).state (get_or t i no_rule).state
  table_yielded W Y bounds = table_right (yields_made W Y bounds)

-- Calls in sequence. What a call may leave, whatever it answers:
abbrev pub Call : (T : FormsTaken) (b : List ℕ) → (changed marks work : List ℕ) → List Rule → (marks' work' : List ℕ) → List Rule → Type 0
Call T b changed marks work table marks' work' table' = (r : RulesSettled) × Allowed T b changed marks work table r marks' work' table'

call_turns : (T : FormsTaken) (b : List ℕ) → Turning (λ us. map (rule_after (index_in b) us)) T b (Call T b)
unfolding rule_table
call_turns T b = record { leaves = λ call. let A = call.1 in record { leaves = A.leaves; clears = A.clears; turns = A.turns } }

table_twice : (f g : Rule → Rule) (table : List Rule) → map f (map g table) ≡ map (λ r. f (g r)) table
table_twice f g [] = refl
table_twice f g (r ∷ table) = ap (f (g r) ∷◌) (table_twice f g table)

table_steady : (I : Index) → Steady (λ us. map (rule_after I us))
unfolding rule_after
table_steady I = record {
  joins = λ us vs table.
      table_same (rule_after I (us ++ vs)) (λ r. rule_after I vs (rule_after I us r)) (λ r. ap (with_state r) (state_joins I us vs r.vertex r.state)) table
      ∙ sym (table_twice (rule_after I vs) (rule_after I us) table);
  members = λ us vs same table. table_same (rule_after I us) (rule_after I vs) (λ r. ap (with_state r) (state_members I us vs same r.vertex r.state)) table;
}

-- where the call for all changed vertices is done, calls for one at a time, of at least one and with the same members, leave the same table, marks and words
pub table_one_by_one :
    {T : FormsTaken} {b changed marks work m w m' w' us : List ℕ} {table t t' : List Rule} {r : RulesSettled} → Allowed T b changed marks work table r m' w' t' → r.refusal ≡ 0
    → 0 < length us → SameMembers us changed → OneByOne (Call T b) us marks work table m w t → (m ≡ m') × ((w ≡ w') × (t ≡ t'))
table_one_by_one {T} {b} {changed} {marks} {work} {r = r} A done some same calls =
    one_by_one (call_turns T b) (table_steady (index_in b)) marks work changed (settled_pass T b changed (length marks) (length work) (answer_done A done)) some same calls (r, A)

-- two results that the contract allows are equal
pub table_once :
    {T : FormsTaken} {b changed marks work m m' w w' : List ℕ} {table t t' : List Rule} {r r' : RulesSettled}
    → Allowed T b changed marks work table r m w t → Allowed T b changed marks work table r' m' w' t' → (r ≡ r') × ((m ≡ m') × ((w ≡ w') × (t ≡ t')))
table_once A B = (A.answers ∙ sym B.answers, (A.leaves ∙ sym B.leaves, (A.clears ∙ sym B.clears, A.turns ∙ sym B.turns)))
