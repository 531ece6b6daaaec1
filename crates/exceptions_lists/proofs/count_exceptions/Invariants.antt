-- `exceptions_lists::count_exceptions` meets its contract. The invariant: the entries of the lists passed are counted, and the marks are as they were lent.
use mathlib.Core.Path.{◌≡◌}
use Rattle.lineage.specs.Calls.{index_in}
use Rattle.exceptions_lists.specs.Lists.{entries_to}
use Rattle.exceptions_lists.proofs.count_exceptions.Given as goal

abbrev pub invariant-loop-x : goal.invariant-loop-x
invariant-loop-x l = (l.count ≡ entries_to (index_in l.index.image.bytes.now) l.x) × (l.marks ≡ l.initial.marks)
