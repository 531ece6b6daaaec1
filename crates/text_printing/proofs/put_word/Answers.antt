-- `text_printing::put_word` meets its contract: the bytes are copied.
use mathlib.Core.Path.{◌≡◌, refl}
use Prim.Native.Nat.{◌+◌, ◌-◌}
use native.Mathlib.Omega.{arith}
use lib.ListN.{length}
use lib.Seq.{drop-drop}
use Rattle.numbers.specs.Put.{put}
use Rattle.text_printing.proofs.put_word.Goals as goal

pub returns : goal.returns
unfolding put
returns c =
    let long : c.args.at + length c.args.word.now - c.args.at ≡ length c.args.word.now = omega arith in
    record { behind = refl; whole = rw (c.copy_from_slice.ensures.after, long, drop-drop (length c.args.word.now) c.args.at c.args.out.now) }
