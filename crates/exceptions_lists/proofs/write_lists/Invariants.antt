-- `exceptions_lists::write_lists` meets its contract. The invariant: the lists passed stand behind each other, and where each ends stands behind the head; the marks are as
-- they were lent.
use mathlib.Core.Path.{◌≡◌}
use Rattle.lineage.specs.Calls.{index_in}
use Rattle.exceptions_lists.proofs.Writing.{Writing}
use Rattle.exceptions_lists.proofs.write_lists.Given as goal

abbrev pub invariant-loop-x : goal.invariant-loop-x
invariant-loop-x l = Writing (index_in l.index.image.bytes.now) l.index.image.layout.k l.x l.at l.initial.out l.out × (l.marks ≡ l.initial.marks)
