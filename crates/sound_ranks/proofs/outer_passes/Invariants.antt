-- `sound_ranks::outer_passes` meets its contract. The invariant: e has fallen to every child passed, and s is the least of the group's own e and the s of
-- those.
use lib.ListN.{get_or}
use Rattle.laws.proofs.Passed.{Passed}
use Rattle.stored.specs.Reading.{numbers_of, rows_of}
use Rattle.sound_ranks.specs.Reading.{tuples_read}
use Rattle.sound_ranks.specs.Tests.{falls_to}
use Rattle.sound_ranks.proofs.Least.{Least}
use Rattle.sound_ranks.proofs.outer_passes.Given as goal

abbrev pub invariant-loop-i : goal.invariant-loop-i
invariant-loop-i l = Passed (falls_to (rows_of l.rows.rows) (tuples_read l.tuples) l.p) l.row.len l.i
    × Least (get_or (tuples_read l.tuples).e l.p 0) (λ q. get_or (tuples_read l.tuples).s q 0) (numbers_of l.row) l.i l.s
