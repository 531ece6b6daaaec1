-- `Listing::write_listed` meets its contract, by the invariant beside this file.
use native.Mathlib.Omega.{arith}
use Rattle.list.proofs.Writing.{counted_more, counted_over, written_more, written_over, written_all, listed_room}
use Rattle.list.proofs.listing.Listing.write_listed.Goals as goal
use Rattle.list.proofs.listing.Listing.write_listed.Goals.{then-is_listed, else-is_listed}

pub bounds-out-at : goal.bounds-out-at
bounds-out-at c = omega (
  arith,
  listed_room c.args.self.now c.loop-v.invariant.0 c.loop-v-test.true c.is_listed.ensures c.if-is_listed.true c.requires,
  c.loop-v.invariant.1.long,
)

pub loop-v-preserved : goal.loop-v-preserved
loop-v-preserved c =
    let h = c.loop-v-test.true in
    let e = c.is_listed.ensures in
    let C = c.loop-v.invariant.0 in
    let W = c.loop-v.invariant.1 in
    elim c.if-is_listed.branch [
      | then-is_listed w ↦ let t = w.if-is_listed.true in rw (w.at-is, w.out-is)
          (counted_more C e t, written_more C W e t (listed_room c.args.self.now C h e t c.requires))
      | else-is_listed w ↦ rw (w.at-is, w.out-is) (counted_over C e w.if-is_listed.false, written_over C W e w.if-is_listed.false)
    ]

pub returns : goal.returns
returns c = written_all c.args.self.now c.loop-v.invariant.0 (omega arith) c.loop-v.invariant.1
