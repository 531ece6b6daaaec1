-- A record's state afterwards in the words of document 02, [11], told of a graph; and changed vertices treated one at a time.
use Rattle.std.specs.Prelude.{true, cond, ◌≡◌, List, [], ◌∷◌, ◌++◌, ℕ, ◌≤◌, ◌<◌, length}
use Rattle.lineage.specs.Lists.{among}
use Rattle.lineage.specs.Graph.{Graph, Reaches}
use Rattle.lineage.specs.Calls.{any_applies, FormsTaken}
use Rattle.rules_states.specs.Rules.{suspect, unknown, rules_checks, rules_marks, rules_work}

-- of a record with vertex v and state s
pub data After (G : Graph) (changed : List ℕ) (v s : ℕ) : ℕ → Type 0 where
  -- records whose vertex is n or more become unknown
  gone : G.n ≤ v → After G changed v s unknown
  -- every record that one of the changed vertices reaches becomes suspect
  affected : {u : ℕ} → v < G.n → among u changed ≡ true → Reaches G u v → After G changed v s suspect
  -- all others keep their state
  kept : v < G.n → ((u : ℕ) → among u changed ≡ true → Reaches G u v → ⊥) → After G changed v s s

-- two lists have the same members, in any order and each any number of times
abbrev pub SameMembers : List ℕ → List ℕ → Type 0
SameMembers us vs = (u : ℕ) → among u us ≡ among u vs

-- what a call leaves that turns a table of any kind: marks, words, and the table, which every refusal leaves unchanged
pub record Leaves {A : Type 0} (turn : List ℕ → A → A) (T : FormsTaken) (b changed marks work : List ℕ) (table : A) (marks' work' : List ℕ) (table' : A) : Type 0 where
  pub leaves : marks' ≡ rules_marks T b changed marks (length work)
  pub clears : work' ≡ rules_work T b changed (length marks) work
  pub turns : table' ≡ cond (any_applies (rules_checks T b changed (length marks) (length work))) table (turn changed table)

-- such a call, by its contract
pub record Turning {A : Type 0} (turn : List ℕ → A → A) (T : FormsTaken) (b : List ℕ) (Call : (changed marks work : List ℕ) → A → (marks' work' : List ℕ) → A → Type 0) : Type 0 where
  pub leaves : {changed marks work m w : List ℕ} {table t : A} → Call changed marks work table m w t → Leaves turn T b changed marks work table m w t

-- calls one after the other, each with one changed vertex, on what the call before left
pub data OneByOne {A : Type 0} (Call : (changed marks work : List ℕ) → A → (marks' work' : List ℕ) → A → Type 0) : (changed marks work : List ℕ) → A → (marks' work' : List ℕ) → A → Type 0 where
  none : {marks work : List ℕ} {table : A} → OneByOne Call [] marks work table marks work table
  next :
      {u : ℕ} {us marks work m w marks' work' : List ℕ} {table t table' : A} → Call (u ∷ []) marks work table m w t
      → OneByOne Call us m w t marks' work' table' → OneByOne Call (u ∷ us) marks work table marks' work' table'

-- to turn a table by some vertices and then by others is to turn it by all of them; their sequence and their number do not matter
pub record Steady {A : Type 0} (turn : List ℕ → A → A) : Type 0 where
  pub joins : (us vs : List ℕ) (table : A) → turn (us ++ vs) table ≡ turn vs (turn us table)
  pub members : (us vs : List ℕ) → SameMembers us vs → (table : A) → turn us table ≡ turn vs table
