-- `exceptions_rows::is_indirect` meets its contract, by the invariant beside this file.
use native.Mathlib.Omega.{arith}
use Rattle.exceptions_rows.proofs.Indirect.{kind_one, child_placed, trying_found, trying_all}
use Rattle.exceptions_rows.proofs.is_indirect.Goals as goal

pub returns-then-labels-ne1 : goal.returns-then-labels-ne1
returns-then-labels-ne1 c = let a = c.args in kind_one a.below.now.rows a.labels.now a.x a.y (λ one. omega (arith, one, c.if-labels-ne1.true))

pub contains-requires : goal.contains-requires
contains-requires c =
    let r = c.row-children.ensures in
    let a = c.args in
    let p = c.requires in
    (omega (arith, p.0, child_placed a.below.now.rows a.labels.now a.x a.y r.0 r.1.0 a.below.now.placed (omega (arith, p)) c.loop-i.i c.loop-i-test.true c.get.ensures.0), p.1.1)

pub returns-then-contains : goal.returns-then-contains
returns-then-contains c =
    let r = c.row-children.ensures in
    let a = c.args in
    trying_found a.below.now.rows a.labels.now a.x a.y r.0 r.1.0 c.if-labels-ne1.false c.loop-i.invariant c.loop-i-test.true c.get.ensures.0 c.contains.ensures c.if-contains.true

pub returns : goal.returns
returns c =
    let r = c.row-children.ensures in
    let a = c.args in
    trying_all a.below.now.rows a.labels.now a.x a.y r.0 r.1.0 c.if-labels-ne1.false c.loop-i.invariant c.loop-i-test.false
