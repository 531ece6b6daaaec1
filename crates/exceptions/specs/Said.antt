-- What a question answers, as the definitions have it.
use Rattle.std.specs.Prelude.{Bool, Result}
use Rattle.lineage.specs.Calls.{Outcome}
use Rattle.refusals.specs.declared.Refusal.{Refusal}
use Rattle.refusals.specs.Refusals.{outcome_by}

-- the number and values that the document gives each case
abbrev pub said_of : Result Bool Refusal → Outcome Bool
said_of = outcome_by (λ s. s)
