-- What the calls for a table of rules answer and leave, as the definitions have it.
use Rattle.std.specs.Prelude.{cond, ◌≡◌, List, ℕ, length, Result, Ok, Err}
use Rattle.lineage.specs.Stored.{counts_in}
use Rattle.lineage.specs.Sound.{contents_sound}
use Rattle.lineage.specs.Calls.{Outcome, refused, answered, outcome, any_applies, FormsTaken, index_in, marks_after}
use Rattle.refusals.specs.Refusals.{number_of, extra_of}
use Rattle.rules_states.specs.Rules.{rules_early, rules_checks, rules_answer, rule_states, rules_marks, rules_work}
use Rattle.rules_states.specs.Marks.{affected_marks}
use Rattle.rules.specs.declared.SettleRefusal.{SettleRefusal}
use Rattle.rules.specs.declared.SettleRefusal.TheVariants.{Refused, BadChanged}

-- the number and the extra number of a refusal: 14 with a position where a changed vertex is out of range
abbrev pub settle_number : SettleRefusal → ℕ
settle_number (Refused r) = number_of r
settle_number (BadChanged at) = 14

abbrev pub settle_extra : SettleRefusal → ℕ
settle_extra (Refused r) = extra_of r
settle_extra (BadChanged at) = at

-- the number and values that the document gives each case
abbrev pub settled_of : Result (Unit {0}) SettleRefusal → Outcome (Unit {0})
settled_of (Ok done) = answered tt
settled_of (Err r) = refused (settle_number r) (settle_extra r)

-- behind the checks: n
abbrev pub prepared_of : Result ℕ SettleRefusal → Outcome ℕ
prepared_of (Ok n) = answered n
prepared_of (Err r) = refused (settle_number r) (settle_extra r)

-- 14 is told of changed vertices alone
abbrev pub Own : {A : Type 0} → Result A SettleRefusal → Type 0
Own (Ok a) = Unit {0}
Own (Err (Refused r)) = number_of r ≡ 14 → ⊥
Own (Err (BadChanged at)) = Unit {0}

unfoldable pub prepared_answer : FormsTaken → List ℕ → (changed : List ℕ) → (marks work : ℕ) → Outcome ℕ
unfolding contents_sound
prepared_answer T b changed marks work = outcome (rules_checks T b changed marks work) (counts_in b).n

-- the marks: where no check applies, 1 below n where a changed vertex reaches the vertex, and otherwise 0
unfoldable pub prepared_marks : FormsTaken → List ℕ → (changed : List ℕ) → (marks : List ℕ) → (work : ℕ) → List ℕ
unfolding affected_marks
prepared_marks T b changed marks work =
    cond (any_applies (rules_checks T b changed (length marks) work))
    (marks_after (rules_early T b changed (length marks) work) b marks)
    (affected_marks (index_in b) changed marks)

-- of the forms taken, bytes, changed vertices, marks, words, and the vertices and states of a table: what may be answered, and what marks, words and states may hold afterwards
pub record Allowed (T : FormsTaken) (b changed marks work vertices states : List ℕ) (r : Result (Unit {0}) SettleRefusal) (marks' work' states' : List ℕ) : Type 0 where
  pub own : Own r
  pub answers : settled_of r ≡ rules_answer T b changed (length marks) (length work)
  pub leaves : marks' ≡ rules_marks T b changed marks (length work)
  pub clears : work' ≡ rules_work T b changed (length marks) work
  pub turns : states' ≡ rule_states T b changed (length marks) (length work) vertices states
