-- `hierarchy_labels::decide` meets its contract: each return is the first of the rules 1 to 4 that holds, by what the code has read by then.
use Rattle.hierarchy_labels.proofs.Rules.{decides_2, decides_3, decides_4}
use Rattle.hierarchy_labels.proofs.decide.Goals as goal

pub returns-then-s-e : goal.returns-then-s-e
returns-then-s-e c = decides_2 c.requires c.if-x-t.false c.of-pairs.ensures.bytes (rw (c.of-pairs.ensures.same.0, c.of-pairs.ensures.same.1.0) at c.s-s.ensures.0) (rw (c.of-pairs.ensures.same.0, c.of-pairs.ensures.same.1.0) at c.e-e.ensures.0) (rw (c.of-pairs.ensures.same.0, c.of-pairs.ensures.same.1.0) at c.e-top.ensures.0) c.if-s-e.true

pub returns-then-num : goal.returns-then-num
returns-then-num c =
    decides_3 c.requires c.if-x-t.false c.of-pairs.ensures.bytes (rw (c.of-pairs.ensures.same.0, c.of-pairs.ensures.same.1.0) at c.s-s.ensures.0) (rw (c.of-pairs.ensures.same.0, c.of-pairs.ensures.same.1.0) at c.e-e.ensures.0) (rw (c.of-pairs.ensures.same.0, c.of-pairs.ensures.same.1.0) at c.e-top.ensures.0) c.if-s-e.false
    c.num.ensures.0 c.num-2.ensures.0 c.if-num.true

pub returns : goal.returns
returns c =
    decides_4 c.requires c.if-x-t.false c.of-pairs.ensures.bytes (rw (c.of-pairs.ensures.same.0, c.of-pairs.ensures.same.1.0) at c.s-s.ensures.0) (rw (c.of-pairs.ensures.same.0, c.of-pairs.ensures.same.1.0) at c.e-e.ensures.0) (rw (c.of-pairs.ensures.same.0, c.of-pairs.ensures.same.1.0) at c.e-top.ensures.0) c.if-s-e.false
    c.num.ensures.0 c.num-2.ensures.0 c.if-num.false
