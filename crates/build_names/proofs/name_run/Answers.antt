-- `build_names::name_run` meets its contract, by the invariant beside this file.
use native.Mathlib.Omega.{arith}
use Rattle.numbers.proofs.Stamping.{stamping_none}
use Rattle.build_names.proofs.Runs.{Vertex, run_vertex, run_more}
use Rattle.build_names.proofs.name_run.Goals as goal
use Rattle.build_names.proofs.name_run.Goals.{In-loop-i}

-- the vertex at hand
vertex : (c : In-loop-i) → let a = c.args in Vertex c.loop-i.work a.at a.base a.n c.loop-i.i
vertex c = run_vertex c.requires c.loop-i.invariant (omega arith)

pub loop-i-init : goal.loop-i-init
loop-i-init c = stamping_none _ _ _ _ _ _

pub bounds-work-base : goal.bounds-work-base
bounds-work-base c = omega (arith, vertex (goal.at.bounds-work-base c).In-loop-i)

pub loop-i-preserved : goal.loop-i-preserved
loop-i-preserved c = run_more c.requires c.loop-i.invariant (omega arith)
