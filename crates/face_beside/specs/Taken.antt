-- What a program in C is given for an added edge: the refusal's number, 0 where there is none, and the added edges afterwards.
use Rattle.std.specs.Prelude.{cond, eqb}
use Rattle.lineage.specs.Calls.{Outcome, refused, answered}
use Rattle.added.specs.declared.Added.{Added}
use Rattle.face_beside.specs.declared.DrobistenTaken.{DrobistenTaken}

-- a refusal with its extra number, or 0 and 0; and the added edges afterwards
abbrev pub host_taken : Outcome (Unit {0}) → Added → DrobistenTaken
host_taken (refused number extra) after = record { refusal = number; extra = extra; state = after }
host_taken (answered done) after = record { refusal = 0; extra = 0; state = after }

-- how it is read: no refusal has the number 0
abbrev pub taken_by : DrobistenTaken → Outcome (Unit {0})
taken_by r = cond (eqb r.refusal 0) (answered tt) (refused r.refusal r.extra)
