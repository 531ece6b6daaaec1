-- `exceptions_rows::match_marked` meets its contract. The invariant: the stored numbers from number `from` on agree with the entries of the places passed.
use Rattle.lineage.specs.Calls.{index_in}
use Rattle.exceptions_rows.proofs.Comparing.{Comparing}
use Rattle.exceptions_rows.proofs.match_marked.Given as goal

abbrev pub invariant-loop-y : goal.invariant-loop-y
invariant-loop-y l = Comparing (index_in l.index.image.bytes.now) l.x l.lists l.from l.y l.at
