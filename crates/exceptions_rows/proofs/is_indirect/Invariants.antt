-- `exceptions_rows::is_indirect` meets its contract: under several labellings at once, and under one by the children of x, gone through as long as none contains y.
use Rattle.stored.specs.Reading.{numbers_of}
use Rattle.exceptions_rows.proofs.Indirect.{told_of, Trying}
use Rattle.exceptions_rows.proofs.is_indirect.Given as goal

abbrev pub invariant-loop-i : goal.invariant-loop-i
invariant-loop-i l = Trying (told_of l.below.rows l.labels) (numbers_of l.children) l.y l.i
