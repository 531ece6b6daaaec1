-- `text_printing::put_said` meets its contract: yes or no, and the three numbers behind it.
use mathlib.Core.Bool.{cond}
use mathlib.Core.Path.{◌≡◌}
use native.Mathlib.Omega.{arith}
use Rattle.text_lines.specs.Lines.{bytes}
use Rattle.text_printing.proofs.Putting.{put_put, put_same}
use Rattle.text_printing.proofs.put_said.Goals as goal
use Rattle.text_printing.proofs.put_said.Goals.{then-says, else-says}

pub returns : goal.returns
returns c =
    let word : c.if-says.word.now ≡ cond c.args.says (bytes "yes ") (bytes "no ") = elim c.if-says.branch [ then-says w ↦ rw (w.if-says.true, w.word-is) | else-says w ↦ rw (w.if-says.false, w.word-is) ] in
    put_put (put_same word c.put_word-a.ensures) c.put_three.ensures (omega arith)
