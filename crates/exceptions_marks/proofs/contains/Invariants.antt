-- `exceptions_marks::contains` meets its contract. The invariant: y's outer interval lies in x's in every labelling passed.
use Rattle.laws.proofs.Passed.{Passed}
use Rattle.exceptions_marks.proofs.Containment.{lies}
use Rattle.exceptions_marks.proofs.contains.Given as goal

abbrev pub invariant-loop-l : goal.invariant-loop-l
invariant-loop-l l = Passed (lies l.labels.width l.labels.z l.labels.k l.labels.bytes.now l.x l.y) l.labels.d l.l
