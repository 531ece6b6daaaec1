-- `build_indexed::first_shared` meets its contract, by the invariant beside this file.
use native.Mathlib.Omega.{arith}
use Rattle.numbers.proofs.Found.{none_begin, none_more, found_here, found_nowhere}
use Rattle.build_indexed.proofs.Shared.{row_many, row_few}
use Rattle.build_indexed.proofs.first_shared.Goals as goal

pub loop-p-init : goal.loop-p-init
loop-p-init c = none_begin

pub returns-then-starts-p : goal.returns-then-starts-p
returns-then-starts-p c = found_here c.args.k c.loop-p.invariant (omega arith) (row_many c.args.starts.now c.loop-p.p c.if-starts-p.true)

pub loop-p-preserved : goal.loop-p-preserved
loop-p-preserved c = none_more c.loop-p.invariant (row_few c.args.starts.now c.loop-p.p c.if-starts-p.false)

pub returns : goal.returns
returns c = found_nowhere c.args.k c.loop-p.invariant (omega arith)
