-- `build_indexed::first_shared` meets its contract. The invariant: no row passed has two entries or more.
use Rattle.numbers.proofs.Found.{NoneBelow}
use Rattle.build_indexed.specs.Shared.{row_shared}
use Rattle.build_indexed.proofs.first_shared.Given as goal

abbrev pub invariant-loop-p : goal.invariant-loop-p
invariant-loop-p l = NoneBelow (row_shared l.starts) l.p
