-- `Rows::row` meets its contract: a group's children stand from its child start to the next one.
use mathlib.Core.Path.{refl, sym}
use Prim.Native.Nat.{◌-◌}
use native.Mathlib.Omega.{arith}
use Rattle.stored.specs.Rows.{Row}
use Rattle.stored.proofs.Row.{row_rises, row_between, row_fits, row_has, row_numbers, row_held}
use Rattle.stored.proofs.reading.Rows.row.Goals as goal
use Rattle.stored.proofs.reading.Rows.row.Goals.{After-num-to}

here : (c : After-num-to) → let r = c.args.self.now in Row r.width r.starts.now r.k r.c c.args.p c.num-from.result (c.num-to.result - c.num-from.result)
here c = row_between c.args.self.now.held.rows c.requires c.num-from.ensures.0 c.num-to.ensures.0

pub overflow_sub-to : goal.overflow_sub-to
overflow_sub-to c = omega (arith, row_rises c.args.self.now.held.rows c.args.p c.requires, c.num-from.ensures.0, c.num-to.ensures.0)

pub numbers_from-bytes-requires-clause-count_bound : goal.numbers_from-bytes-requires-clause-count_bound
numbers_from-bytes-requires-clause-count_bound c = row_fits c.args.self.now.held (here (goal.at.numbers_from-bytes-requires-clause-count_bound c).After-num-to)

pub overflow_sub-result : goal.overflow_sub-result
overflow_sub-result c = omega (arith, row_rises c.args.self.now.held.rows c.args.p c.requires, c.num-from.ensures.0, c.num-to.ensures.0)

pub invariant_of-result : goal.invariant_of-result
invariant_of-result c = record { held = row_held c.args.self.now.held (here (goal.at.invariant_of-result c).After-num-to) c.numbers_from-bytes.ensures }

pub returns : goal.returns
returns c =
    let r = c.args.self.now in
    let R = here (goal.at.returns c).After-num-to in
    (row_numbers r.held R c.numbers_from-bytes.ensures, (sym (row_has r.held R), refl))
