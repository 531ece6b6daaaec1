-- What `ask` answers, as the definitions have it, and the marks behind the checks that alter nothing.
use Rattle.std.specs.Prelude.{cond, List, [], ◌∷◌, ◌++◌, ℕ, drop, Result}
use Rattle.lineage.specs.Lists.{cleared}
use Rattle.lineage.specs.Stored.{counts_in}
use Rattle.lineage.specs.Question.{answer}
use Rattle.lineage.specs.Calls.{Outcome, any_applies, contents_check, index_in, Said}
use Rattle.refusals.specs.declared.Refusal.{Refusal}
use Rattle.refusals.specs.Refusals.{outcome_by}
use Rattle.ask.specs.declared.Asked.{Asked}

-- what an answer says
abbrev pub said_by : Asked → Said
said_by a = record { says = a.says; reason = a.reason; opened = a.opened; deciding = a.deciding }

-- the number and values that the document gives each case
abbrev pub asked_of : Result Asked Refusal → Outcome Said
asked_of r = outcome_by said_by r

-- the marks behind 14: those of the answer below n, and 0 there where the contents are not sound
abbrev pub marks_laid : List ℕ → (u v : ℕ) → List ℕ → List ℕ
marks_laid b u v marks = cond (any_applies (contents_check b ∷ [])) (cleared (counts_in b).n marks) ((answer (index_in b) u v).marks ++ drop (counts_in b).n marks)
