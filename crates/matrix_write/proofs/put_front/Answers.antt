-- `matrix_write::put_front` meets its contract: the header and its LF, n and a space, and the rest of the size line, one put behind the other.
use Prim.Native.Nat.{◌+◌, ◌≤◌}
use native.Mathlib.Omega.{arith}
use lib.ListN.{length}
use Rattle.text_lines.specs.Lines.{decimal}
use Rattle.text_printing.proofs.Putting.{put_put, put_same}
use Rattle.matrix_write.proofs.Rows.{pair_line, front_parts, front_long}
use Rattle.matrix_write.proofs.put_front.Goals as goal
use Rattle.matrix_write.proofs.put_front.Goals.{After-put_number-b, After-put_word-a}

-- behind each part there is room for the rest
room₁ : (h : After-put_word-a) → let a = h.args in
    h.put_word-a.result + (length (decimal a.n) + (length (pair_line a.n a.edges) + 1)) ≤ length h.put_word-a.new.out
room₁ h = omega (arith, front_long h.args.n h.args.edges)

room₂ : (p : After-put_number-b) → let a = p.args in
    p.put_number-b.result + (length (pair_line a.n a.edges) + 1) ≤ length p.put_number-b.new.out
room₂ p = omega (arith, front_long p.args.n p.args.edges)

pub returns : goal.returns
returns c =
    let a = c.args in
    put_same (front_parts a.n a.edges)
    (put_put c.put_word-a.ensures (put_put c.put_number-b.ensures (put_put c.put_byte-c.ensures c.put_row.ensures (omega (arith, room₂ (goal.at.returns c).After-put_number-b))) (omega (arith, room₁ (goal.at.returns c).After-put_word-a))) (omega arith))
