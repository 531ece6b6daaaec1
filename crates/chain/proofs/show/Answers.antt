-- `chain::show` meets its contract: the steps are counted, and written where there is room.
use Prim.Native.Nat.{suc, ◌≤◌}
use native.Mathlib.Omega.{arith}
use Rattle.numbers.specs.Bounds.{vertex_bound}
use Rattle.reach_sweep.specs.Fit.{names_of}
use Rattle.chain_steps.specs.Steps.{next_in}
use Rattle.chain_steps.proofs.Steps.{steps_most}
use Rattle.chain.proofs.Shown.{fills_all}
use Rattle.chain.proofs.show.Goals as goal
use Rattle.chain.proofs.show.Goals.{After-count_steps-count}

-- there are no more steps than levels
few : (c : After-count_steps-count) → c.count_steps-count.result ≤ suc vertex_bound
few c = let a = c.args in
    omega (arith, c.count_steps-count.ensures, steps_most (names_of a.groups.now) (next_in a.groups.now a.marks.now) a.t (suc a.lev) a.x, c.requires.lev_le_vertex_bound)

pub overflow_cast-result : goal.overflow_cast-result
overflow_cast-result c = omega (arith, few (goal.at.overflow_cast-result c).After-count_steps-count)

pub overflow_cast-result-2 : goal.overflow_cast-result-2
overflow_cast-result-2 c = omega (arith, few (goal.at.overflow_cast-result-2 c).After-count_steps-count)

pub returns : goal.returns
returns c = fills_all c.count_steps-count.ensures c.if-steps-count.false c.write_chain.ensures
