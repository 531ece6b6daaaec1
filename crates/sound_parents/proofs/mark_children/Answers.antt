-- `sound_parents::mark_children` meets its contract, by the invariant beside this file.
use native.Mathlib.Omega.{arith}
use Rattle.numbers.proofs.Marks.{marking_more, marking_all}
use Rattle.sound_parents.proofs.Entries.{entry_in, entries_out, entry_low}
use Rattle.sound_parents.proofs.mark_children.Goals as goal

pub bounds-marks-q : goal.bounds-marks-q
bounds-marks-q c = omega (arith, entry_low c.args.children.now c.requires c.loop-j-test.true c.get-q.ensures.0, c.loop-j.invariant.long)

pub loop-j-preserved : goal.loop-j-preserved
loop-j-preserved c = marking_more c.loop-j.invariant (entry_in c.args.children.now c.loop-j-test.true) c.get-q.ensures.0

pub returns : goal.returns
returns c = marking_all c.loop-j.invariant (entries_out c.args.children.now c.loop-j-test.false)
