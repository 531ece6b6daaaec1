-- `sound_labels::labellings_pass` meets its contract. The invariant: the labellings passed have passed.
use Rattle.laws.proofs.Passed.{Passed}
use Rattle.stored.specs.Reading.{rows_of}
use Rattle.sound_labels.specs.Tests.{labelling_passes}
use Rattle.sound_labels.proofs.labellings_pass.Given as goal

abbrev pub invariant-loop-j : goal.invariant-loop-j
invariant-loop-j l = Passed (labelling_passes l.labels.width l.labels.z (rows_of l.rows.rows) l.labels.bytes.now l.labels.k) l.labels.d l.j
