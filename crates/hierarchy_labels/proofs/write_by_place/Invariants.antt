-- `hierarchy_labels::write_by_place` meets its contract. The invariant: the labels of the first p groups stand written from position at on, and everything else is as it
-- was lent.
use mathlib.Core.Path.{◌≡◌}
use Rattle.build_writing.proofs.Behind.{blocks_put}
use Rattle.hierarchy_labels.specs.Turned.{label_from}
use Rattle.hierarchy_labels.proofs.write_by_place.Given as goal

abbrev pub invariant-loop-p : goal.invariant-loop-p
invariant-loop-p l = l.out ≡ blocks_put l.tuples.width l.at (label_from l.tuples.width l.tuples.z l.y l.tuples.bytes.now) l.initial.out l.p
