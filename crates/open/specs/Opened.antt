-- What `open` answers, as the definitions have it.
use Rattle.std.specs.Prelude.{Result}
use Rattle.lineage.specs.Stored.{Counts}
use Rattle.lineage.specs.Calls.{Outcome}
use Rattle.refusals.specs.declared.Refusal.{Refusal}
use Rattle.refusals.specs.Refusals.{outcome_by}
use Rattle.open.specs.declared.Opened.{Opened}

-- the counts of an index that opened
abbrev pub counts_told : Opened → Counts
counts_told o = record { n = o.n; k = o.k; c = o.c; d = o.d }

-- the number and values that the document gives each case
abbrev pub opened_of : Result Opened Refusal → Outcome Counts
opened_of = outcome_by counts_told
