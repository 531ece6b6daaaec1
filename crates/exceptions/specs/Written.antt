-- What building answers and writes, as the definitions have it.
use Rattle.std.specs.Prelude.{cond, ◌≡◌, List, [], ◌∷◌, ◌++◌, ℕ, ltb, length, drop, Result}
use Rattle.lineage.specs.Calls.{Check, check, Outcome, outcome, any_applies}
use Rattle.refusals.specs.declared.Refusal.{Refusal}
use Rattle.refusals.specs.Refusals.{outcome_by}

-- the number and values that the document gives each case
abbrev pub written_of : Result ℕ Refusal → Outcome ℕ
written_of = outcome_by (λ n. n)

-- 9: the lists do not fit an output of this length
abbrev pub room_checks : List ℕ → ℕ → List Check
room_checks lists out = check (ltb out (length lists)) 9 (length lists) ∷ []

-- behind 15: what may be answered, and what the output may hold afterwards
pub record Fills (lists out : List ℕ) (r : Result ℕ Refusal) (out' : List ℕ) : Type 0 where
  pub answers : written_of r ≡ outcome (room_checks lists (length out)) (length lists)
  pub writes : out' ≡ cond (any_applies (room_checks lists (length out))) out (lists ++ drop (length lists) out)
