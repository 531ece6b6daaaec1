-- What `settle_lists_taking` answers and leaves, from what `prepare` answered and left: a refusal is handed on, and nothing else is touched; behind the checks each
-- state follows the mark of its vertex, and the marks are cleared again.
use mathlib.Core.Bool.{true, false}
use mathlib.Core.Path.{◌≡◌, refl, sym, ap, ap₂, ◌∙◌}
use mathlib.Core.List.{List, [], ◌∷◌, ◌++◌}
use Prim.Native.Nat.{ℕ, ◌≤◌}
use native.Mathlib.Omega.{arith}
use lib.ListN.{length}
use Rattle.lineage.specs.Lists.{cleared}
use Rattle.lineage.specs.Stored.{counts_in}
use Rattle.lineage.specs.Calls.{Check, Outcome, refused, answered, any_applies, FormsTaken, contents_check, index_in}
use Rattle.laws.specs.Checks.{Comes}
use Rattle.laws.proofs.Checks.{refused_comes, stops_comes}
use Rattle.stored.proofs.Contents.{names_many}
use Rattle.rules_states.specs.Rules.{each_state, state_after, states_after, rules_early, rules_answer, rule_states, rules_marks, rules_work}
use Rattle.rules_states.specs.Marks.{affected_marks, state_by}
use Rattle.rules_states.proofs.States.{each_same}
use Rattle.rules_states.proofs.Affected.{state_same, affected_long, affected_cleared}
use Rattle.rules.specs.Settled.{prepared_answer, prepared_marks}
use Rattle.rules.proofs.Preparing.{prepared_pass, prepared_n, prepared_room}

module _ (T : FormsTaken) (b changed marks work : List ℕ) where
  -- 10 to 14 and 6; 15
  abbrev early : List Check
  early = rules_early T b changed (length marks) (length work)

  abbrev late : List Check
  late = contents_check b ∷ []

  abbrev all : List Check
  all = early ++ late

  -- what may be answered, and what marks, words and the states of a table may hold afterwards
  abbrev pub Settles : (vertices states : List ℕ) → Outcome (Unit {0}) → List ℕ → List ℕ → List ℕ → Type 0
  Settles vertices states o m w s =
      (o ≡ rules_answer T b changed (length marks) (length work))
      × ((m ≡ rules_marks T b changed marks (length work))
      × ((w ≡ rules_work T b changed (length marks) work) × (s ≡ rule_states T b changed (length marks) (length work) vertices states)))

  -- `prepare` refused
  module _ {x y : ℕ} (e : refused x y ≡ prepared_answer T b changed (length marks) (length work)) where
    comes : Comes all [] (tt {0}) (refused x y) true true
    unfolding prepared_answer
    comes = refused_comes (tt {0}) (counts_in b).n all [] [] x y (sym e)

    -- so some check applies
    pub refused_any : any_applies all ≡ true
    refused_any = comes.all

    pub settles_refused : (vertices states : List ℕ) {m w : List ℕ} → m ≡ prepared_marks T b changed marks (length work) → w ≡ rules_work T b changed (length marks) work
        → Settles vertices states (refused x y) m w states
    unfolding rules_answer rule_states rules_marks prepared_marks
    settles_refused vertices states em ew =
        (sym comes.says, (em ∙ rw refused_any refl, (ew, rw refused_any refl)))

  -- `prepare` let them through, with this n and these marks
  module _ {n : ℕ} (e : answered n ≡ prepared_answer T b changed (length marks) (length work))
      {reached : List ℕ} (left : reached ≡ prepared_marks T b changed marks (length work))
    where
      passed : Comes early late (tt {0}) (answered (tt {0})) false false
      passed = stops_comes (tt {0}) [] early late 7 tt (prepared_pass T b changed marks work e)

      -- no check applies
      pub reached_none : any_applies all ≡ false
      reached_none = passed.all

      many : length (index_in b).names ≡ n
      many = names_many b ∙ sym (prepared_n T b changed marks work e)

      reached_is : reached ≡ affected_marks (index_in b) changed marks
      unfolding prepared_marks
      reached_is = left ∙ rw reached_none refl

      pub reached_room : n ≤ length reached
      reached_room =
          let room : n ≤ length marks = prepared_room T b changed marks work e in
          omega (arith, ap length reached_is, affected_long (index_in b) changed marks (omega (arith, many)))

      -- each state follows the mark of its vertex
      pub state_reached : (v s : ℕ) → state_by reached n v s ≡ state_after (index_in b) changed v s
      state_reached v s = rw (reached_is, ← many) (state_same (index_in b) changed marks v s)

      pub settles_done : (vertices states : List ℕ) {m w s : List ℕ}
          → s ≡ each_state (state_by reached n) vertices states → m ≡ cleared n reached
          → w ≡ rules_work T b changed (length marks) work → Settles vertices states (answered tt) m w s
      unfolding rules_answer rule_states rules_marks states_after
      settles_done vertices states es em ew = (
        sym passed.says,
        (
          em ∙ ap₂ cleared (sym many) reached_is ∙ affected_cleared (index_in b) changed marks ∙ rw (passed.before, names_many b) refl,
          (ew, es ∙ each_same _ _ vertices states state_reached ∙ rw reached_none refl),
        ),
      )
