-- `matrix_lines::read_row` meets its contract: the first number, and the others behind it.
use mathlib.Core.Path.{refl, sym, ◌∙◌}
use native.Mathlib.Omega.{arith}
use Rattle.matrix_lines.proofs.Lines.{row_missed, row_read}
use Rattle.matrix_lines.proofs.read_row.Goals as goal

pub returns-in_err-first : goal.returns-in_err-first
returns-in_err-first c = record {
  kept = refl;
  read = rw c.from_residual.ensures (row_missed c.args.size c.args.at _ c.requires.0 (sym c.in_err-first.was ∙ c.read_number.ensures));
}

pub returns : goal.returns
returns c =
    let n = c.read_numbers in
    record {
      kept = refl;
      read =
          row_read n.result c.args.text.now c.args.into.now n.new.into c.args.at c.args.size _ c.requires.0 (omega (arith, c.requires))
          (sym c.in_ok-first.was ∙ c.read_number.ensures) n.ensures.read;
    }
