-- `chain_steps::write_chain` meets its contract, by the invariant beside this file.
use mathlib.Core.Path.{◌≡◌}
use native.Mathlib.Omega.{arith}
use Rattle.chain_steps.specs.Steps.{next_in}
use Rattle.chain_steps.proofs.Steps.{level_left, trail_on, child_found, child_next, run_done, run_next}
use Rattle.chain_steps.proofs.write_chain.Goals as goal
use Rattle.chain_steps.proofs.write_chain.Goals.{After-unwrap-place}

-- the lowest marked child of the place where the run stopped
chosen : (m : After-unwrap-place) → (let a = m.args in m.unwrap-place.result ≡ next_in a.groups.now a.marks.now m.write_steps-stop.result.place)
chosen m = child_next m.args.groups.now m.args.marks.now m.write_steps-stop.ensures.trail m.if-last-t.false m.lowest_marked.ensures m.unwrap-place.ensures

pub returns-then-last-t : goal.returns-then-last-t
returns-then-last-t c = run_done c.loop-stop.invariant.1 c.write_steps-stop.ensures c.if-last-t.true

pub unwrap-place-requires : goal.unwrap-place-requires
unwrap-place-requires c = child_found c.args.groups.now c.args.marks.now c.write_steps-stop.ensures.trail c.if-last-t.false c.lowest_marked.ensures

pub loop-stop-preserved : goal.loop-stop-preserved
loop-stop-preserved c = (
  trail_on c.write_steps-stop.ensures.trail c.if-last-t.false (chosen (goal.at.loop-stop-preserved c).After-unwrap-place)
      (omega (arith, level_left c.write_steps-stop.ensures.trail c.if-last-t.false)),
  run_next c.loop-stop.invariant.1 c.write_steps-stop.ensures c.if-last-t.false (chosen (goal.at.loop-stop-preserved c).After-unwrap-place)
      (omega (arith, level_left c.write_steps-stop.ensures.trail c.if-last-t.false)),
)
