-- `text_printing::put_refusal` meets its contract: the word, and the two numbers behind it.
use native.Mathlib.Omega.{arith}
use Rattle.text_printing.proofs.Putting.{put_put}
use Rattle.text_printing.proofs.put_refusal.Goals as goal

pub returns : goal.returns
returns c = put_put c.put_word-a.ensures c.put_two.ensures (omega (arith, c.requires))
