-- `build_levels::row_level` meets its contract. The invariant: `level` is the greatest of one more than the levels of the places passed.
use Rattle.build_levels.proofs.Rows.{Climbing}
use Rattle.build_levels.proofs.row_level.Given as goal

abbrev pub invariant-loop-place : goal.invariant-loop-place
invariant-loop-place l = Climbing l.levels l.row l.place-index l.level
