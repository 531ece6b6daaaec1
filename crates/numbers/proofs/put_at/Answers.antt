-- `numbers::put_at` meets its contract: the stores, one byte each, are the bytes of the number put one after the other.
use mathlib.Core.Path.{refl}
use native.Mathlib.Omega.{arith}
use lib.ListN.{length-set}
use Rattle.numbers.proofs.Numbers.{put_two, put_four}
use Rattle.numbers.proofs.put_at.Goals as goal

pub bounds-out-p-2 : goal.bounds-out-p-2
bounds-out-p-2 c = simp length-set (omega arith)

pub returns-then-w-eq2 : goal.returns-then-w-eq2
returns-then-w-eq2 c = put_two _ _ _ _ _ _ c.if-w-eq2.true (omega arith) refl refl

pub bounds-out-p-3 : goal.bounds-out-p-3
bounds-out-p-3 c = simp length-set (omega arith)

pub bounds-out-p-4 : goal.bounds-out-p-4
bounds-out-p-4 c = simp length-set (omega arith)

pub returns : goal.returns
returns c =
    put_four c.args.w c.args.p c.args.v _ _ _ _ c.args.out.now (omega arith) (omega arith) refl refl refl refl
