-- `exceptions_marks::mark_contained` meets its contract. The invariant: of the places at the ranks passed the exceptions of x are marked and counted, and no other mark has
-- changed. The ranks gone through are those of x's outer interval in the first labelling, and all exceptions of x stand there.
use Prim.Native.Nat.{◌≤◌}
use Rattle.lineage.specs.Calls.{index_in}
use Rattle.reach.specs.Marks.{first_labels}
use Rattle.exceptions_marks.proofs.Looking.{Looking}
use Rattle.exceptions_marks.proofs.mark_contained.Given as goal

abbrev pub invariant-loop-i : goal.invariant-loop-i
invariant-loop-i l = (l.count ≤ l.i) × Looking (index_in l.index.image.bytes.now) (first_labels (index_in l.index.image.bytes.now).labels) l.x l.from l.i l.count l.initial.marks l.marks
