-- `text_lines::byte_at` meets its contract: the byte at the position is the first from there on, and the arm that the match takes says its kind.
use mathlib.Core.Path.{sym, ap, ◌∙◌}
use Prim.Native.Nat.{ℕ}
use native.Mathlib.Omega.{arith}
use lib.ListN.{get_or}
use Rattle.text_lines.specs.declared.Byte.TheVariants.{Digit}
use Rattle.text_lines.specs.Reader.{kind}
use Rattle.text_lines.proofs.Bytes.{end_here, byte_here, letter_kind, digit_kind, other_kind, below_digits, above_digits}
use Rattle.text_lines.proofs.byte_at.Goals as goal

pub returns-then-text-at : goal.returns-then-text-at
returns-then-text-at c = end_here _ _ c.if-text-at.true

pub returns-in-118 : goal.returns-in-118
returns-in-118 c = sym (letter_kind _ c.in-118.is) ∙ byte_here _ _ c.if-text-at.false

pub returns-in-32 : goal.returns-in-32
returns-in-32 c = sym (ap kind c.in-32.is) ∙ byte_here _ _ c.if-text-at.false

pub returns-in-10 : goal.returns-in-10
returns-in-10 c = sym (ap kind c.in-10.is) ∙ byte_here _ _ c.if-text-at.false

pub returns-in-48-to-57 : goal.returns-in-48-to-57
returns-in-48-to-57 c =
    let b : ℕ = get_or c.args.text.now c.args.at 0 in
    ap Digit c.from.ensures ∙ (sym (digit_kind b (omega arith) (omega arith)) ∙ byte_here _ _ c.if-text-at.false)

pub returns-in_default : goal.returns-in_default
returns-in_default c =
    let b : ℕ = get_or c.args.text.now c.args.at 0 in
    let r = c.in_default.in_default-own.rest in
    sym (other_kind b r.0.0.1 r.0.1 r.1 (below_digits b (omega arith))) ∙ byte_here _ _ c.if-text-at.false

pub returns-in_default-2 : goal.returns-in_default-2
returns-in_default-2 c =
    let b : ℕ = get_or c.args.text.now c.args.at 0 in
    let r = c.in_default.in_default-own.rest in
    sym (other_kind b r.0.0.1 r.0.1 r.1 (above_digits b (omega arith))) ∙ byte_here _ _ c.if-text-at.false
