-- `text_lines::read_digits` meets its contract, by the invariant beside this file.
use mathlib.Core.Path.{◌≡◌, sym, ◌∙◌}
use Prim.Native.Nat.{◌+◌, ◌-◌, ◌*◌, ◌^◌, ◌≤◌}
use native.Mathlib.Nat.{sub_self}
use native.Mathlib.Omega.{arith}
use lib.ListN.{drop}
use Rattle.text_lines.specs.declared.Byte.TheVariants.{Digit}
use Rattle.text_lines.specs.Reader.{digits_in}
use Rattle.text_lines.proofs.Bytes.{Sees, seen, within}
use Rattle.text_lines.proofs.Decimals.{digit_turn, digit_room, digit_low, room_fits, number_ends, number_strays, number_over}
use Rattle.text_lines.proofs.read_digits.Goals as goal
use Rattle.text_lines.proofs.read_digits.Goals.{In-Digit, After-loop-i}

-- what is seen at a digit
here : (c : In-Digit) → Sees (Digit c.in-Digit.d) (drop (c.args.at + c.loop-i.i) c.args.text.now)
here c = seen _ _ (sym c.in-Digit.is ∙ c.byte_at.ensures)

-- with one digit more the number still has room
room : (c : In-Digit) → (10 * c.loop-i.v + c.in-Digit.d + 1) * 10 ^ (c.args.left - (c.loop-i.i + 1)) ≤ 10 ^ 9
room c = digit_room _ _ _ _ c.loop-i.invariant.room c.loop-i-test.true (digit_low (here c))

-- behind so many digits none more may stand
full : (c : After-loop-i) → digits_in 0 c.loop-i.v (c.args.at + c.args.left) (drop (c.args.at + c.args.left) c.args.text.now) ≡ digits_in c.args.left c.args.value c.args.at (drop c.args.at c.args.text.now)
full c =
    let all : c.loop-i.i ≡ c.args.left = omega arith in
    rw (all, sub_self c.args.left) at c.loop-i.invariant.same

pub overflow_mul-v : goal.overflow_mul-v
overflow_mul-v c = omega (arith, room_fits _ _ (room (goal.at.overflow_mul-v c).In-Digit))

pub overflow_add-v : goal.overflow_add-v
overflow_add-v c = omega (arith, room_fits _ _ (room (goal.at.overflow_add-v c).In-Digit))

pub loop-i-preserved : goal.loop-i-preserved
loop-i-preserved c =
    let p = (goal.at.loop-i-preserved c).In-Digit in
    record {
      same = digit_turn _ _ _ _ _ c.loop-i-test.true (here p) ∙ c.loop-i.invariant.same;
      room = room p;
      inside = omega (arith, within c.args.text.now (c.args.at + c.loop-i.i) (here p) (λ e. cc));
    }

pub returns-in-Space : goal.returns-in-Space
returns-in-Space c = number_ends _ _ _ (seen _ _ c.byte_at.ensures) c.in-Space.is ∙ c.loop-i.invariant.same

pub returns-in_default : goal.returns-in_default
returns-in_default c =
    let n = c.in_default in
    number_strays _ _ _ (seen _ _ c.byte_at.ensures) n.not-Digit n.not-Space n.not-Lf ∙ c.loop-i.invariant.same

pub returns-in-Space-byte_at : goal.returns-in-Space-byte_at
returns-in-Space-byte_at c = number_ends _ _ _ (seen _ _ c.byte_at-2.ensures) c.in-Space-byte_at.is ∙ full (goal.at.returns-in-Space-byte_at c).After-loop-i

pub returns-in_default-byte_at : goal.returns-in_default-byte_at
returns-in_default-byte_at c =
    let n = c.in_default-byte_at in
    number_over _ _ (seen _ _ c.byte_at-2.ensures) n.not-Space n.not-Lf ∙ full (goal.at.returns-in_default-byte_at c).After-loop-i
