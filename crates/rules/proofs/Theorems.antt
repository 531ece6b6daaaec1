-- What the states say after a call that is done, whatever edge list and orders yield the bytes: each record's is as the document tells, and states for which no
-- vertex is lent are kept. Changed vertices may be treated one at a time, in any order, by calls in sequence. And the contract allows one result.
use mathlib.Core.Bool.{true, false}
use mathlib.Core.Path.{◌≡◌, refl, sym, ap, subst⁻¹, ◌∙◌}
use mathlib.Core.List.{List, []}
use Prim.Native.Nat.{ℕ, ◌≤◌, ◌<◌}
use lib.ListN.{length, get_or}
use Rattle.std.specs.Prelude.{Result, Ok, Err}
use Rattle.refusals.specs.declared.Refusal.{Refusal}
use Rattle.refusals.proofs.Told.{outcome_once}
use Rattle.lineage.specs.Index.{index_of, Made}
use Rattle.lineage.specs.Stored.{Form, counts_of, counts_fit}
use Rattle.lineage.specs.Calls.{Check, answered, any_applies, FormsTaken, index_in}
use Rattle.laws.specs.Checks.{Pass}
use Rattle.laws.proofs.Checks.{answered_pass, stops_early}
use Rattle.stored.specs.Fits.{Fits}
use Rattle.stored.proofs.Contents.{names_many}
use Rattle.stored.proofs.Encoded.{index_encode}
use Rattle.open.specs.Yields.{Yields}
use Rattle.open.proofs.Fits.{Wide, yielded_fits}
use Rattle.rules_states.specs.Rules.{state_after, states_after, rules_checks, rules_answer, rule_states}
use Rattle.rules_states.specs.Marks.{InRange}
use Rattle.rules_states.specs.After.{After, SameMembers, Turning, OneByOne}
use Rattle.rules_states.proofs.States.{each_long, each_at, each_behind}
use Rattle.rules_states.proofs.After.{state_right}
use Rattle.rules_states.proofs.OneByOne.{states_steady, one_by_one}
use Rattle.rules.specs.declared.SettleRefusal.{SettleRefusal}
use Rattle.rules.specs.declared.SettleRefusal.TheVariants.{Refused, BadChanged}
use Rattle.rules.specs.Settled.{settled_of, Own, Allowed}
use Rattle.rules.proofs.Preparing.{in_range}

-- whatever graph yields the bytes, with counts within their form's bounds, yields the index that they hold
abbrev pub yields_made : {F : Form} {b : List ℕ} → Wide F → (Y : Yields F b) → counts_fit F (counts_of (index_of Y.graph Y.orders)) ≡ true → Made (index_in b)
yields_made {F} W Y bounds =
    let E : Fits F (index_of Y.graph Y.orders) = yielded_fits W Y.graph Y.ends Y.orders Y.permuted Y.plain bounds in
    record {
      graph = Y.graph;
      ends = Y.ends;
      orders = Y.orders;
      permuted = Y.permuted;
      yields = sym (index_encode E) ∙ ap index_in Y.bytes;
    }

-- a call that is done: no check applies, and every changed vertex is in range
module _ (T : FormsTaken) (b changed : List ℕ) (marks work : ℕ) (e : rules_answer T b changed marks work ≡ answered tt) where
  abbrev checks : List Check
  checks = rules_checks T b changed marks work

  pub settled_pass : Pass checks
  unfolding rules_answer
  settled_pass = answered_pass (tt {0}) checks tt e

  pub settled_none : any_applies checks ≡ false
  settled_none = stops_early checks [] 7 settled_pass

  pub settled_range : InRange (length (index_in b).names) changed
  settled_range = in_range (names_many b) changed settled_pass.1.1.1.1.1.0

  module _ (vertices states : List ℕ) where
    abbrev after : List ℕ
    after = rule_states T b changed marks work vertices states

    after_is : after ≡ states_after (index_in b) changed vertices states
    unfolding rule_states
    after_is = rw settled_none

    -- there are as many states as before
    pub settled_long : length after ≡ length states
    unfolding states_after
    settled_long = ap length after_is ∙ each_long (state_after (index_in b) changed) vertices states

    module _ (i : ℕ) where
      -- the state of record i is as the document tells, in whatever graph yields the bytes
      pub settled_right : (M : Made (index_in b)) → i < length vertices → i < length states
          → After M.graph changed (get_or vertices i 0) (get_or states i 0) (get_or after i 0)
      unfolding states_after
      settled_right M h k =
          subst⁻¹ (After M.graph changed (get_or vertices i 0) (get_or states i 0))
          (ap (λ (xs : List ℕ). get_or xs i 0) after_is ∙ each_at (state_after (index_in b) changed) i vertices states h k)
          (state_right M changed settled_range (get_or vertices i 0) (get_or states i 0))

      -- so in whatever graph yields these very bytes, with counts within their form's bounds
      pub settled_yielded : {F : Form} → Wide F → (Y : Yields F b) → counts_fit F (counts_of (index_of Y.graph Y.orders)) ≡ true
          → i < length vertices → i < length states → After Y.graph changed (get_or vertices i 0) (get_or states i 0) (get_or after i 0)
      settled_yielded W Y bounds = settled_right (yields_made W Y bounds)

      -- a state for which no vertex is lent is kept
      pub settled_behind : length vertices ≤ i → get_or after i 0 ≡ get_or states i 0
      unfolding states_after
      settled_behind h = ap (λ (xs : List ℕ). get_or xs i 0) after_is ∙ each_behind (state_after (index_in b) changed) i vertices states h

-- Calls in sequence. What a call may leave, whatever it answers:
abbrev pub Call : (T : FormsTaken) (b vertices : List ℕ) → (changed marks work states marks' work' states' : List ℕ) → Type 0
Call T b vertices changed marks work states marks' work' states' = (r : Result (Unit {0}) SettleRefusal) × Allowed T b changed marks work vertices states r marks' work' states'

call_turns : (T : FormsTaken) (b vertices : List ℕ) → Turning (λ us. states_after (index_in b) us vertices) T b (Call T b vertices)
unfolding rule_states
call_turns T b vertices = record { leaves = λ call. let A = call.1 in record { leaves = A.leaves; clears = A.clears; turns = A.turns } }

-- where the call for all changed vertices is done, calls for one at a time, of at least one and with the same members, leave the same states, marks and words
pub settled_one_by_one :
    (T : FormsTaken) (b vertices changed marks work : List ℕ) → rules_answer T b changed (length marks) (length work) ≡ answered tt
    → {us states m w s m' w' s' : List ℕ} → 0 < length us → SameMembers us changed
    → OneByOne (Call T b vertices) us marks work states m w s → Call T b vertices changed marks work states m' w' s' → (m ≡ m') × ((w ≡ w') × (s ≡ s'))
settled_one_by_one T b vertices changed marks work e =
    one_by_one (call_turns T b vertices) (states_steady (index_in b) vertices) marks work changed (settled_pass T b changed (length marks) (length work) e)

-- two results that the contract allows are equal
settled_one : (r r' : Result (Unit {0}) SettleRefusal) → Own r → Own r' → settled_of r ≡ settled_of r' → r ≡ r'
settled_one (Ok done) (Ok done') o o' e = refl
settled_one (Ok done) (Err r') o o' e = cc
settled_one (Err r) (Ok done') o o' e = cc
settled_one (Err (Refused r)) (Err (Refused r')) o o' e =
    let same : ◌≡◌ {A = Result (Unit {0}) Refusal} (Err r) (Err r') = outcome_once (λ (done : Unit {0}). done) (λ a a' z. z) (Err r) (Err r') e in cc
settled_one (Err (Refused r)) (Err (BadChanged at)) o o' e = absurd (o cc)
settled_one (Err (BadChanged at)) (Err (Refused r')) o o' e = absurd (o' cc)
settled_one (Err (BadChanged at)) (Err (BadChanged at')) o o' e = cc

pub settled_once :
    {T : FormsTaken} {b changed marks work vertices states : List ℕ} {r r' : Result (Unit {0}) SettleRefusal} {m m' w w' s s' : List ℕ}
    → Allowed T b changed marks work vertices states r m w s → Allowed T b changed marks work vertices states r' m' w' s'
    → (r ≡ r') × ((m ≡ m') × ((w ≡ w') × (s ≡ s')))
settled_once A B =
    (settled_one _ _ A.own B.own (A.answers ∙ sym B.answers), (A.leaves ∙ sym B.leaves, (A.clears ∙ sym B.clears, A.turns ∙ sym B.turns)))
