-- `chain_steps::write_steps` meets its contract, by the measure beside this file.
use Rattle.std.proofs.Common.{◌≡◌, ℕ, arith}
use Rattle.chain_steps.specs.Steps.{next_in}
use Rattle.chain_steps.proofs.Steps.{room_one, trail_on, child_found, child_next, stopped_here, room_on, stopped_on}
use Rattle.chain_steps.proofs.+write_steps.Goals.{After-unwrap-q}
use Rattle.chain_steps.proofs.+write_steps.Goals as goal

-- the lowest marked child
chosen : (t : ℕ) (c : After-unwrap-q t) → (let a = c.args in c.unwrap-q.result ≡ next_in a.groups.now a.marks.now a.p)
chosen t c = child_next c.args.groups.now c.args.marks.now c.requires.trail_in c.if-p-t.false c.lowest_marked.ensures c.unwrap-q.ensures

pub bounds-out-at : goal.bounds-out-at
bounds-out-at t c = room_one _ _ _ _ _ _ _ c.requires.p_in_bounds

pub returns-then-p-t : goal.returns-then-p-t
returns-then-p-t t c =
    stopped_here c.requires.trail_in _ _ _ _ c.get-name.ensures.0 c.requires.p_in_bounds

pub unwrap-q-requires : goal.unwrap-q-requires
unwrap-q-requires t c = child_found c.args.groups.now c.args.marks.now c.requires.trail_in c.if-p-t.false c.lowest_marked.ensures

pub write_steps-requires : goal.write_steps-requires
write_steps-requires t c =
    let P = goal.at.write_steps-requires t c in
    let T = c.requires.trail_in in
    let is = chosen t P.After-unwrap-q in (
      omega arith,
      (
        c.requires.spots,
        (
          trail_on T c.if-p-t.false is (omega arith),
          room_on T _ c.args.floor _ c.args.out.now c.get-name.ensures.0 c.requires.p_in_bounds c.if-p-t.false is (omega arith),
        ),
      ),
    )

pub returns : goal.returns
returns t c =
    let P = goal.at.returns t c in
    stopped_on c.requires.trail_in _ _ _ _ c.get-name.ensures.0 c.requires.p_in_bounds c.if-p-t.false (chosen t P.After-unwrap-q) (omega arith) (omega arith)
    c.write_steps.ensures
