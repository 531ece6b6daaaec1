-- `build_levels::row_level` meets its contract, by the invariant beside this file.
use native.Mathlib.Omega.{arith}
use Rattle.build_levels.proofs.Rows.{climbing_none, climbing_more, climbing_all}
use Rattle.build_levels.proofs.row_level.Goals as goal

pub loop-place-init : goal.loop-place-init
loop-place-init c = climbing_none _ _

pub bounds-levels-place : goal.bounds-levels-place
bounds-levels-place c = c.requires.below c.loop-place.place-index (omega arith)

pub overflow_add-levels : goal.overflow_add-levels
overflow_add-levels c = omega (arith, c.requires.by_index c.loop-place.place-index (omega arith))

pub loop-place-preserved : goal.loop-place-preserved
loop-place-preserved c = climbing_more c.loop-place.invariant (omega arith) c.max-level.ensures

pub returns : goal.returns
returns c = climbing_all c.loop-place.invariant (omega arith)
