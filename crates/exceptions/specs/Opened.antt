-- What opening answers, as the definitions have it.
use Rattle.std.specs.Prelude.{Result}
use Rattle.lineage.specs.Calls.{Outcome}
use Rattle.refusals.specs.declared.Refusal.{Refusal}
use Rattle.refusals.specs.Refusals.{outcome_by}
use Rattle.exceptions.specs.Calls.{ListCounts}
use Rattle.exceptions.specs.declared.Opened.{Opened}

-- the number and values that the document gives each case
abbrev pub opened_of : Result Opened Refusal → Outcome ListCounts
opened_of = outcome_by (λ (o : Opened). record { groups = o.groups; entries = o.entries })
