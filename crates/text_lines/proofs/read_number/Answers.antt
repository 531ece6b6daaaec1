-- `text_lines::read_number` meets its contract: behind a zero no digit may follow, behind any other first digit at most one less than the most.
use mathlib.Core.Path.{sym, ◌∙◌}
use Prim.Native.Nat.{◌<◌}
use native.Mathlib.Omega.{arith}
use lib.ListN.{length, drop}
use Rattle.text_lines.specs.declared.Byte.TheVariants.{Digit}
use Rattle.text_lines.proofs.Bytes.{Sees, seen, within}
use Rattle.text_lines.proofs.Decimals.{digit_low, first_room, number_zero, number_other, number_none}
use Rattle.text_lines.proofs.read_number.Goals as goal
use Rattle.text_lines.proofs.read_number.Goals.{In-Digit}

-- what is seen at the first digit
here : (c : In-Digit) → Sees (Digit c.in-Digit.d) (drop c.args.at c.args.text.now)
here c = seen _ _ (sym c.in-Digit.is ∙ c.byte_at.ensures)

inside : (c : In-Digit) → c.args.at < length c.args.text.now
inside c = within _ _ (here c) (λ e. cc)

pub overflow_add-at : goal.overflow_add-at
overflow_add-at c = omega (arith, inside (goal.at.overflow_add-at c).In-Digit, c.well_formed)

pub overflow_add-at-else-d-eq0 : goal.overflow_add-at-else-d-eq0
overflow_add-at-else-d-eq0 c = omega (arith, inside (goal.at.overflow_add-at-else-d-eq0 c).In-Digit, c.well_formed)

pub read_digits-requires-clause-at_in_bounds : goal.read_digits-requires-clause-at_in_bounds
read_digits-requires-clause-at_in_bounds c = omega (arith, inside (goal.at.read_digits-requires-clause-at_in_bounds c).In-Digit)

pub read_digits-requires-else-d-eq0-clause-at_in_bounds : goal.read_digits-requires-else-d-eq0-clause-at_in_bounds
read_digits-requires-else-d-eq0-clause-at_in_bounds c = omega (arith, inside (goal.at.read_digits-requires-else-d-eq0-clause-at_in_bounds c).In-Digit)

pub read_digits-requires-else-d-eq0-clause-room : goal.read_digits-requires-else-d-eq0-clause-room
read_digits-requires-else-d-eq0-clause-room c =
    let p = c.requires in
    first_room _ _ (digit_low (here (goal.at.read_digits-requires-else-d-eq0-clause-room c).In-Digit)) p.0 p.1

pub returns-then-d-eq0 : goal.returns-then-d-eq0
returns-then-d-eq0 c =
    let p = c.requires in
    c.read_digits.ensures ∙ number_zero _ _ _ (here (goal.at.returns-then-d-eq0 c).In-Digit) c.if-d-eq0.true p.0

pub returns-else-d-eq0 : goal.returns-else-d-eq0
returns-else-d-eq0 c =
    let p = c.requires in
    c.read_digits-else-d-eq0.ensures ∙ number_other _ _ _ (here (goal.at.returns-else-d-eq0 c).In-Digit) c.if-d-eq0.false p.0

pub returns-in_default : goal.returns-in_default
returns-in_default c = number_none _ _ (seen _ _ c.byte_at.ensures) c.in_default.not-Digit
