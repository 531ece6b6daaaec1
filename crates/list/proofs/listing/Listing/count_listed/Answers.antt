-- `Listing::count_listed` meets its contract, by the invariant beside this file.
use native.Mathlib.Omega.{arith}
use Rattle.list.proofs.Writing.{counted_more, counted_over, counted_most, counted_all}
use Rattle.list.proofs.listing.Listing.count_listed.Goals as goal
use Rattle.list.proofs.listing.Listing.count_listed.Goals.{then-is_listed, else-is_listed}

pub overflow_add-count : goal.overflow_add-count
overflow_add-count c = omega (arith, counted_most c.loop-v.invariant)

pub loop-v-preserved : goal.loop-v-preserved
loop-v-preserved c =
    let e = c.is_listed.ensures in
    elim c.if-is_listed.branch [
      | then-is_listed w ↦ rw w.count-is (counted_more c.loop-v.invariant e w.if-is_listed.true)
      | else-is_listed w ↦ rw w.count-is (counted_over c.loop-v.invariant e w.if-is_listed.false)
    ]

pub returns : goal.returns
returns c = counted_all c.args.self.now c.loop-v.invariant (omega arith)
