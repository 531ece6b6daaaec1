-- The numbers that a program in C is given: the refusal's number is 0 where there is none, and with a refusal the numbers of the answer are 0.
use Rattle.std.specs.Prelude.{Bool, cond, ℕ, eqb}
use Rattle.lineage.specs.Stored.{Counts}
use Rattle.lineage.specs.Calls.{Outcome, refused, answered, Said}
use Rattle.face.specs.declared.DrobistenOpened.{DrobistenOpened}
use Rattle.face.specs.declared.DrobistenAsked.{DrobistenAsked}
use Rattle.face.specs.declared.DrobistenAskedAll.{DrobistenAskedAll}
use Rattle.face.specs.declared.DrobistenCounted.{DrobistenCounted}
use Rattle.face.specs.declared.DrobistenSaid.{DrobistenSaid}

-- a refusal with its extra number, or n, k, c and d
abbrev pub host_opened : Outcome Counts → DrobistenOpened
host_opened (refused number extra) = record { refusal = number; extra = extra; n = 0; k = 0; c = 0; d = 0 }
host_opened (answered a) = record { refusal = 0; extra = 0; n = a.n; k = a.k; c = a.c; d = a.d }

-- a refusal with its extra number, or yes (1) or no (0), the reason, the number of groups opened, and the number of the labelling that decided
abbrev pub host_asked : Outcome Said → DrobistenAsked
host_asked (refused number extra) = record { refusal = number; extra = extra; yes = 0; reason = 0; opened = 0; labelling = 0 }
host_asked (answered s) = record { refusal = 0; extra = 0; yes = cond s.says 1 0; reason = s.reason; opened = s.opened; labelling = s.deciding }

-- a refusal with its extra number, or the number of pairs
abbrev pub host_asked_all : Outcome ℕ → DrobistenAskedAll
host_asked_all (refused number extra) = record { refusal = number; extra = extra; count = 0 }
host_asked_all (answered count) = record { refusal = 0; extra = 0; count = count }

-- a refusal with its extra number, or the one number that is answered
abbrev pub host_counted : Outcome ℕ → DrobistenCounted
host_counted (refused number extra) = record { refusal = number; extra = extra; count = 0 }
host_counted (answered count) = record { refusal = 0; extra = 0; count = count }

-- a refusal with its extra number, or yes (1) or no (0)
abbrev pub host_said : Outcome Bool → DrobistenSaid
host_said (refused number extra) = record { refusal = number; extra = extra; yes = 0 }
host_said (answered says) = record { refusal = 0; extra = 0; yes = cond says 1 0 }

-- how they are read: no refusal has the number 0
abbrev pub opened_by : DrobistenOpened → Outcome Counts
opened_by r = cond (eqb r.refusal 0) (answered (record { n = r.n; k = r.k; c = r.c; d = r.d })) (refused r.refusal r.extra)

abbrev pub asked_by : DrobistenAsked → Outcome Said
asked_by r = cond (eqb r.refusal 0) (answered (record { says = eqb r.yes 1; reason = r.reason; opened = r.opened; deciding = r.labelling })) (refused r.refusal r.extra)

abbrev pub asked_all_by : DrobistenAskedAll → Outcome ℕ
asked_all_by r = cond (eqb r.refusal 0) (answered r.count) (refused r.refusal r.extra)

abbrev pub counted_by : DrobistenCounted → Outcome ℕ
counted_by r = cond (eqb r.refusal 0) (answered r.count) (refused r.refusal r.extra)

abbrev pub said_by : DrobistenSaid → Outcome Bool
said_by r = cond (eqb r.refusal 0) (answered (eqb r.yes 1)) (refused r.refusal r.extra)
