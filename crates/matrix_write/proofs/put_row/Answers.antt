-- `matrix_write::put_row` meets its contract: a number, a space, a number and LF, one put behind the other.
use Prim.Native.Nat.{◌+◌, ◌≤◌}
use native.Mathlib.Omega.{arith}
use lib.ListN.{length}
use Rattle.text_lines.specs.Lines.{decimal}
use Rattle.text_printing.proofs.Putting.{put_put, put_same}
use Rattle.matrix_write.proofs.Rows.{pair_parts}
use Rattle.matrix_write.proofs.put_row.Goals as goal
use Rattle.matrix_write.proofs.put_row.Goals.{After-put_byte-b, After-put_number-a}

-- behind each part there is room for the rest
room₁ : (p : After-put_number-a) → p.put_number-a.result + (length (decimal p.args.y) + 2) ≤ length p.put_number-a.new.out
room₁ p = omega arith

room₂ : (b : After-put_byte-b) → b.put_byte-b.result + (length (decimal b.args.y) + 1) ≤ length b.put_byte-b.new.out
room₂ b = omega arith

pub returns : goal.returns
returns c =
    let a = c.args in
    put_same (pair_parts a.x a.y)
    (put_put c.put_number-a.ensures (put_put c.put_byte-b.ensures (put_put c.put_number-c.ensures c.put_byte.ensures (omega (arith, room₂ (goal.at.returns c).After-put_byte-b))) (omega (arith, room₁ (goal.at.returns c).After-put_number-a))) (omega (arith, c.requires)))
