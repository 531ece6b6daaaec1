-- `build_writing::write_labels` meets its contract. The invariant: the numbers of the first i groups stand written from position at on, and everything else is as it was
-- lent.
use mathlib.Core.Path.{◌≡◌}
use Rattle.lineage.specs.Stored.{label_of}
use Rattle.build_writing.specs.Words.{labelling_in_words}
use Rattle.build_writing.proofs.Behind.{blocks_put}
use Rattle.build_writing.proofs.write_labels.Given as goal

abbrev pub invariant-loop-i : goal.invariant-loop-i
invariant-loop-i l = l.out ≡ blocks_put l.w l.at (label_of l.z (labelling_in_words l.words)) l.initial.out l.i
