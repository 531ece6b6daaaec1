-- The labellings that lent numbers hold.
use Rattle.std.specs.Prelude.{ℕ}
use Rattle.lineage.specs.Labels.{Labelling}
use Rattle.stored.specs.Sections.{labelling_in}
use Rattle.sound_ranks.specs.Tests.{tuples_alone}
use Rattle.sound_ranks.specs.declared.reading.TuplesByPlace.{TuplesByPlace}
use Rattle.sound_ranks.specs.declared.reading.OneLabelling.{OneLabelling}

-- by the numbers by place alone
abbrev pub tuples_read : TuplesByPlace → Labelling
tuples_read t = tuples_alone t.width t.z t.bytes.now t.k

abbrev pub labelling_read : (z : ℕ) → OneLabelling z → Labelling
labelling_read z l = labelling_in l.width z l.tuples.now l.places.now l.k
