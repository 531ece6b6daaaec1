-- The numbers that a program in C is given for a chain: the refusal's number is 0 where there is none, and with a refusal the numbers of the answer are 0.
use Rattle.std.specs.Prelude.{cond, eqb}
use Rattle.lineage.specs.Calls.{Outcome, refused, answered}
use Rattle.chain.specs.Traced.{Traced, none, steps}
use Rattle.face_list.specs.declared.DrobistenChained.{DrobistenChained}

-- a refusal with its extra number, or yes (1) and the steps of the chain, or no (0)
abbrev pub host_chained : Outcome Traced → DrobistenChained
host_chained (refused number extra) = record { refusal = number; extra = extra; yes = 0; steps = 0 }
host_chained (answered none) = record { refusal = 0; extra = 0; yes = 0; steps = 0 }
host_chained (answered (steps count)) = record { refusal = 0; extra = 0; yes = 1; steps = count }

-- how they are read: no refusal has the number 0
abbrev pub chained_by : DrobistenChained → Outcome Traced
chained_by r = cond (eqb r.refusal 0) (answered (cond (eqb r.yes 1) (steps r.steps) none)) (refused r.refusal r.extra)
