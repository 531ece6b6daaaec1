-- A table of rule records, lent as it stands (document 02, [11]): what a record becomes, what the table is afterwards, and what the desk is given for an answer.
use Rattle.std.specs.Prelude.{cond, ◌≡◌, List, map, ℕ, eqb, length}
use Rattle.lineage.specs.Index.{Index}
use Rattle.lineage.specs.Calls.{Outcome, refused, answered, any_applies, FormsTaken, index_in}
use Rattle.lineage.specs.Sound.{contents_sound}
use Rattle.lineage.specs.Stored.{decode}
use Rattle.rules_states.specs.Rules.{state_after, rules_checks, rules_answer, rules_marks, rules_work}
use Rattle.rules_states.specs.Marks.{state_by}
use Rattle.rules_table.specs.declared.Rule.{Rule}
use Rattle.rules_table.specs.declared.RulesSettled.{RulesSettled}

-- a record with another state: rule numbers and vertices never change
abbrev pub with_state : Rule → ℕ → Rule
with_state r state = record { rule = r.rule; vertex = r.vertex; state = state }

unfoldable pub rule_after : Index → List ℕ → Rule → Rule
unfolding state_after
rule_after I changed r = with_state r (state_after I changed r.vertex r.state)

-- the table: unchanged by every refusal
unfoldable pub rule_table : FormsTaken → List ℕ → (changed : List ℕ) → (marks work : ℕ) → List Rule → List Rule
unfolding contents_sound rule_after decode
rule_table T b changed marks work table = cond (any_applies (rules_checks T b changed marks work)) table (map (rule_after (index_in b) changed) table)

-- what the desk is given: a refusal with its extra number, or 0 and 0
abbrev pub desk_settled : Outcome (Unit {0}) → RulesSettled
desk_settled (refused number extra) = record { refusal = number; extra = extra }
desk_settled (answered done) = record { refusal = 0; extra = 0 }

-- how it reads that: no refusal has the number 0
abbrev pub settled_by : RulesSettled → Outcome (Unit {0})
settled_by r = cond (eqb r.refusal 0) (answered tt) (refused r.refusal r.extra)

-- of the forms taken, bytes, changed vertices, marks, words and a table: what the desk may be given, and what marks, words and table may hold afterwards
pub record Allowed (T : FormsTaken) (b changed marks work : List ℕ) (table : List Rule) (r : RulesSettled) (marks' work' : List ℕ) (table' : List Rule) : Type 0 where
  pub answers : r ≡ desk_settled (rules_answer T b changed (length marks) (length work))
  pub leaves : marks' ≡ rules_marks T b changed marks (length work)
  pub clears : work' ≡ rules_work T b changed (length marks) work
  pub turns : table' ≡ rule_table T b changed (length marks) (length work) table

-- a record told from the mark of its vertex, of n vertices
unfoldable pub rule_by : (marks : List ℕ) → ℕ → Rule → Rule
unfolding state_by
rule_by marks n r = with_state r (state_by marks n r.vertex r.state)

-- what is read past the end of a table
abbrev pub no_rule : Rule
no_rule = record { rule = 0; vertex = 0; state = 0 }
