-- `exceptions_marks::contains` meets its contract, by the invariant beside this file.
use mathlib.Core.Bool.{not}
use mathlib.Core.Path.{◌≡◌, ap, ◌∙◌}
use Rattle.laws.proofs.Passed.{passed_more, passed_not, passed_all}
use Rattle.exceptions_marks.proofs.Containment.{lies, lies_all, lies_is}
use Rattle.exceptions_marks.proofs.contains.Goals as goal
use Rattle.exceptions_marks.proofs.contains.Goals.{After-lies_in}

told : (b : After-lies_in) → let s = b.args in
    b.lies_in.result ≡ lies s.labels.now.width s.labels.now.z s.labels.now.k s.labels.now.bytes.now s.x s.y b.loop-l.l
told b = let p = b.requires in lies_is _ _ _ _ _ _ _ b.of-tuples.ensures.bytes p.0 p.1 (rw (b.of-tuples.ensures.same.0, b.of-tuples.ensures.same.1.0) at b.lies_in.ensures)

pub returns-then-not-lies_in : goal.returns-then-not-lies_in
returns-then-not-lies_in c = passed_not c.loop-l.invariant c.loop-l-test.true (told (goal.at.returns-then-not-lies_in c).After-lies_in) (ap not c.if-not-lies_in.true) ∙ lies_all _ _ _ _ _ _ _

pub loop-l-preserved : goal.loop-l-preserved
loop-l-preserved c = passed_more c.loop-l.invariant c.loop-l-test.true (told (goal.at.loop-l-preserved c).After-lies_in) (ap not c.if-not-lies_in.false)

pub returns : goal.returns
returns c = passed_all c.loop-l.invariant c.loop-l-test.false ∙ lies_all _ _ _ _ _ _ _
