-- The numbers that a program in C is given for exception lists: the refusal's number is 0 where there is none, and with a refusal the numbers of the answer are 0.
use Rattle.std.specs.Prelude.{cond, eqb}
use Rattle.lineage.specs.Calls.{Outcome, refused, answered}
use Rattle.exceptions.specs.Calls.{ListCounts}
use Rattle.face_exceptions.specs.declared.DrobistenLists.{DrobistenLists}

-- a refusal with its extra number, or of how many groups they are and how many entries they have
abbrev pub host_lists : Outcome ListCounts → DrobistenLists
host_lists (refused number extra) = record { refusal = number; extra = extra; groups = 0; entries = 0 }
host_lists (answered a) = record { refusal = 0; extra = 0; groups = a.groups; entries = a.entries }

-- how they are read: no refusal has the number 0
abbrev pub lists_by : DrobistenLists → Outcome ListCounts
lists_by r = cond (eqb r.refusal 0) (answered (record { groups = r.groups; entries = r.entries })) (refused r.refusal r.extra)
