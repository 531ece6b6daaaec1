-- `text_lines::read_line` meets its contract: behind its letter a line is its numbers.
use mathlib.Core.Path.{refl, sym, ap, ◌∙◌}
use Prim.Native.Nat.{◌<◌}
use native.Mathlib.Omega.{arith}
use lib.ListN.{length, take, drop}
use Rattle.text_lines.specs.declared.Byte.TheVariants.{Letter}
use Rattle.text_lines.specs.Lines.{most_digits}
use Rattle.text_lines.specs.Reader.{after}
use Rattle.text_lines.proofs.Bytes.{Sees, seen, within}
use Rattle.text_lines.proofs.Words.{letter_passed, other_letter, no_letter}
use Rattle.text_lines.proofs.read_line.Goals as goal
use Rattle.text_lines.proofs.read_line.Goals.{In-Letter}

-- the letter that stands first
here : (c : In-Letter) → Sees (Letter c.in-Letter.b) (drop c.args.at c.args.text.now)
here c = seen _ _ (sym c.in-Letter.is ∙ c.byte_at.ensures)

inside : (c : In-Letter) → c.args.at < length c.args.text.now
inside c = within _ _ (here c) (λ e. cc)

pub overflow_add-at : goal.overflow_add-at
overflow_add-at c = omega (arith, inside (goal.at.overflow_add-at c).In-Letter, c.well_formed)

pub returns-then-b-letter : goal.returns-then-b-letter
returns-then-b-letter c =
    let a = c.args in
    let e = c.read_numbers.ensures in
    record {
      kept = e.kept;
      read = e.read ∙ letter_passed most_digits a.text.now (take a.base a.into.now) a.at a.size a.letter (here (goal.at.returns-then-b-letter c).In-Letter) c.if-b-letter.true;
    }

pub returns-else-b-letter : goal.returns-else-b-letter
returns-else-b-letter c =
    let a = c.args in
    record {
      kept = refl;
      read = sym (ap (after (take a.base a.into.now) a.at) (other_letter _ _ _ (here (goal.at.returns-else-b-letter c).In-Letter) c.if-b-letter.false));
    }

pub returns-in_default : goal.returns-in_default
returns-in_default c =
    let none = no_letter _ _ _ c.requires.0 (seen _ _ c.byte_at.ensures) c.in_default.not-Letter in
    record { kept = refl; read = sym (ap (after (take c.args.base c.args.into.now) c.args.at) none) }
