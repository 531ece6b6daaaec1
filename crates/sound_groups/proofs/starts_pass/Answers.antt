-- `sound_groups::starts_pass` meets its contract, by the invariant beside this file.
use Rattle.laws.proofs.Lists.{all_broken}
use Rattle.stored.specs.Reading.{numbers_of}
use Rattle.sound_groups.proofs.Starts.{not_falling, start_falls, starts_fall}
use Rattle.sound_groups.proofs.starts_pass.Goals as goal

pub returns-then-get : goal.returns-then-get
returns-then-get c =
    let xs = numbers_of c.args.starts.now in
    starts_fall xs c.args.k c.args.c c.get.ensures.0 c.if-get-ne0.false
    (all_broken (not_falling xs) c.args.k _ c.loop-p-test.true (start_falls xs c.loop-p.p c.get-in-loop-p-2.ensures.0 c.get-in-loop-p.ensures.0 c.if-get.true))
