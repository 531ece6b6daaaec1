-- `text_printing::put_question` meets its contract: the letter, the two numbers behind it, and a space.
use Prim.Native.Nat.{◌≤◌}
use native.Mathlib.Omega.{arith}
use lib.ListN.{length}
use Rattle.text_printing.proofs.Putting.{two_short, put_put}
use Rattle.text_printing.proofs.put_question.Goals as goal

pub put_byte-requires : goal.put_byte-requires
put_byte-requires c = omega (arith, two_short c.args.source c.args.target, c.put_two-b.ensures.behind, c.put_two-b.auto.out, c.put_word-a.ensures.behind, c.put_word-a.auto.out, c.requires)

pub returns : goal.returns
returns c =
    let room : c.put_word-a.result ≤ length c.put_word-a.new.out = omega (arith, c.put_word-a.ensures.behind, c.put_word-a.auto.out, c.requires) in
    put_put c.put_word-a.ensures (put_put c.put_two-b.ensures c.put_byte.ensures room) (omega (arith, c.requires))
