-- `sound_groups::rows_pass` meets its contract. The invariant: the rows passed, and their levels, have passed.
use Rattle.laws.proofs.Passed.{Passed}
use Rattle.stored.specs.Reading.{numbers_of, rows_of}
use Rattle.sound_groups.specs.Tests.{row_and_level}
use Rattle.sound_groups.proofs.rows_pass.Given as goal

abbrev pub invariant-loop-p : goal.invariant-loop-p
invariant-loop-p l = Passed (row_and_level (rows_of l.rows) (numbers_of l.levels)) l.rows.k l.p
