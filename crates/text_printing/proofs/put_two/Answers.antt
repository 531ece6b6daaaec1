-- `text_printing::put_two` meets its contract: a number, a space and a number, one put behind the other.
use Prim.Native.Nat.{◌≤◌}
use native.Mathlib.Omega.{arith}
use lib.ListN.{length}
use Rattle.text_printing.proofs.Putting.{number_short, put_put}
use Rattle.text_printing.proofs.put_two.Goals as goal

pub put_number-a-requires : goal.put_number-a-requires
put_number-a-requires c = omega (arith, number_short c.args.x, c.requires)

pub put_byte-b-requires : goal.put_byte-b-requires
put_byte-b-requires c = omega (arith, number_short c.args.x, c.put_number-a.ensures.behind, c.put_number-a.auto.out, c.requires)

pub put_number-requires : goal.put_number-requires
put_number-requires c = omega (arith, number_short c.args.x, number_short c.args.y, c.put_number-a.ensures.behind, c.put_number-a.auto.out, c.put_byte-b.ensures.behind, c.put_byte-b.auto.out, c.requires)

pub returns : goal.returns
returns c =
    let room : c.put_number-a.result ≤ length c.put_number-a.new.out = omega (arith, number_short c.args.x, c.put_number-a.ensures.behind, c.put_number-a.auto.out, c.requires) in
    put_put c.put_number-a.ensures (put_put c.put_byte-b.ensures c.put_number.ensures room) (omega (arith, c.requires))
