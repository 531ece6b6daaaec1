-- What `chain` answers and leaves, as the definitions have it.
use Rattle.std.specs.Prelude.{cond, ◌≡◌, List, [], ◌∷◌, ◌++◌, ℕ, ltb, length, drop, Option, Some, None, Result}
use Rattle.lineage.specs.Index.{Index}
use Rattle.lineage.specs.Calls.{Check, check, Outcome, outcome, any_applies, FormsTaken}
use Rattle.refusals.specs.declared.Refusal.{Refusal}
use Rattle.refusals.specs.Refusals.{outcome_by}
use Rattle.chain.specs.Traced.{Traced, none, steps, traced, room_checks, shown, chain_answer, chain_marks, chain_work, chain_output}

-- how many steps there are, a no, or a refusal
abbrev pub traced_of : Option ℕ → Traced
traced_of (Some count) = steps count
traced_of None = none

abbrev pub chained_of : Result (Option ℕ) Refusal → Outcome Traced
chained_of = outcome_by traced_of

-- on a yes, of the steps found: 16 where the list is shorter, and what may be answered, and what the list may hold afterwards
abbrev fits : List ℕ → ℕ → List Check
fits found out = check (ltb out (length found)) 16 (length found) ∷ []

pub record Fills (found out : List ℕ) (r : Result (Option ℕ) Refusal) (out' : List ℕ) : Type 0 where
  pub answers : chained_of r ≡ outcome (fits found (length out)) (steps (length found))
  pub writes : out' ≡ cond (any_applies (fits found (length out))) out (found ++ drop (length found) out)

-- behind 15: what may be answered, and what the list may hold afterwards
pub record Shows (I : Index) (source target : ℕ) (out : List ℕ) (r : Result (Option ℕ) Refusal) (out' : List ℕ) : Type 0 where
  pub answers : chained_of r ≡ outcome (room_checks I source target (length out)) (traced I source target)
  pub writes : out' ≡ cond (any_applies (room_checks I source target (length out))) out (shown I source target out)

-- of the forms taken, bytes, source, target, marks, words and a list: what may be answered, and what marks, words and list may hold afterwards
pub record Allowed (T : FormsTaken) (b : List ℕ) (source target : ℕ) (marks work out : List ℕ) (r : Result (Option ℕ) Refusal) (marks' work' out' : List ℕ) : Type 0 where
  pub answers : chained_of r ≡ chain_answer T b source target (length marks) (length work) (length out)
  pub leaves : marks' ≡ chain_marks T b source target marks (length work)
  pub clears : work' ≡ chain_work T b source target (length marks) work
  pub writes : out' ≡ chain_output T b source target (length marks) (length work) out
