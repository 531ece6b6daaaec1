-- `build_stripping::strip` meets its contract. The invariant: the rows passed stand stripped one after the other, and each starts where those before it end.
-- There are no more values than were passed, so the next row has room; and no stamp is above the rows passed, so none is the next row's mark.
use Rattle.build_stripping.proofs.Stripped.{Stripped}
use Rattle.build_stripping.proofs.strip.Given as goal

abbrev pub invariant-loop-p : goal.invariant-loop-p
invariant-loop-p l = Stripped l.initial.work l.work l.rows.starts l.rows.values l.rows.c l.rows.k l.base l.p l.n
