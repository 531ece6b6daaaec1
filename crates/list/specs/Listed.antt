-- What `list` answers and leaves, as the definitions have it.
use Rattle.std.specs.Prelude.{cond, ◌≡◌, List, [], ◌∷◌, ◌++◌, ℕ, ltb, length, drop, Result}
use Rattle.lineage.specs.Calls.{Check, check, Outcome, outcome, any_applies, FormsTaken, list_answer, list_marks, list_work, list_output}
use Rattle.refusals.specs.declared.Refusal.{Refusal}
use Rattle.refusals.specs.Refusals.{outcome_by}

-- how many vertices are listed, or a refusal
abbrev pub listed_of : Result ℕ Refusal → Outcome ℕ
listed_of = outcome_by (λ count. count)

-- 16: the vertices found do not fit an out list of this length
abbrev pub room_checks : List ℕ → ℕ → List Check
room_checks found out = check (ltb out (length found)) 16 (length found) ∷ []

-- behind 15: what may be answered, and what the out list may hold afterwards
pub record Fills (found out : List ℕ) (r : Result ℕ Refusal) (out' : List ℕ) : Type 0 where
  pub answers : listed_of r ≡ outcome (room_checks found (length out)) (length found)
  pub writes : out' ≡ cond (any_applies (room_checks found (length out))) out (found ++ drop (length found) out)

-- of the forms taken, bytes, a vertex, marks, words and an out list: what may be answered, and what marks, words and out list may hold afterwards
pub record Allowed (T : FormsTaken) (b : List ℕ) (vertex : ℕ) (marks work out : List ℕ) (r : Result ℕ Refusal) (marks' work' out' : List ℕ) : Type 0 where
  pub answers : listed_of r ≡ list_answer T b vertex (length marks) (length work) (length out)
  pub leaves : marks' ≡ list_marks T b vertex marks (length work)
  pub clears : work' ≡ list_work T b vertex (length marks) work
  pub writes : out' ≡ list_output T b vertex (length marks) (length work) out
