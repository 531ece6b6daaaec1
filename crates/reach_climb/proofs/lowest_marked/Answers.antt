-- `reach_climb::lowest_marked` meets its contract, by the invariant beside this file.
use Prim.Native.Nat.{◌<◌}
use native.Mathlib.Omega.{arith}
use Rattle.std.proofs.lemmas.Grind.{common_steps}
use Rattle.reach_sweep.proofs.Children.{child_low}
use Rattle.reach_climb.proofs.lowest_marked.Goals as goal
use Rattle.reach_climb.proofs.lowest_marked.Goals.{After-get-q}

-- the child that was read is a place
place_low : (c : After-get-q) → c.get-q.result < c.args.groups.now.rows.k
place_low c = child_low c.args.groups.now c.requires.p_lt_k (omega (arith, c.row-row.ensures.1.0)) (rw c.row-row.ensures.0 at c.get-q.ensures.0)

pub get-name-requires : goal.get-name-requires
get-name-requires c = omega (arith, place_low (goal.at.get-name-requires c).After-get-q, c.args.groups.now.many)

pub bounds-marks-name : goal.bounds-marks-name
bounds-marks-name c = omega (arith, c.requires.spots.name_low _ (place_low (goal.at.bounds-marks-name c).After-get-q), c.get-name.ensures.0)

pub returns-then-marks-name-eq1 : goal.returns-then-marks-name-eq1
returns-then-marks-name-eq1 c = grind (arith, common_steps)
