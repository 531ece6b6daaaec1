-- `exceptions_rows::write_marked` meets its contract. The invariant: the entries of the places passed stand behind each other, from number `from` on.
use Rattle.lineage.specs.Calls.{index_in}
use Rattle.exceptions_rows.proofs.Putting.{Putting}
use Rattle.exceptions_rows.proofs.write_marked.Given as goal

abbrev pub invariant-loop-y : goal.invariant-loop-y
invariant-loop-y l = Putting (index_in l.index.image.bytes.now) l.x l.from l.y l.at l.initial.out l.out
