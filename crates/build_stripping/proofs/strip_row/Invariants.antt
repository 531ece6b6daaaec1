-- `build_stripping::strip_row` meets its contract. The invariant: the words written and what is to be written of the entries left make up the whole, and the
-- stamps tell what was written. An entry is passed over where its stamp is the row's mark, and otherwise stamped and written.
use Rattle.build_stripping.proofs.Stripping.{Stripping}
use Rattle.build_stripping.proofs.strip_row.Given as goal

abbrev pub invariant-loop-e : goal.invariant-loop-e
invariant-loop-e l = Stripping l.initial.work l.work l.rows.values l.rows.c l.from l.to l.p l.rows.k l.out l.at l.n l.e
