-- `list::listing::in_own_list` meets its contract, by the invariant beside this file.
use native.Mathlib.Omega.{arith}
use borrow.Author.Tests.{eq-eqb, ne_eqb}
use Rattle.stored.specs.Reading.{numbers_of}
use Rattle.list.proofs.Writing.{counted_more, counted_over, counted_most}
use Rattle.list.proofs.Own.{named_read, own_counted}
use Rattle.list.proofs.listing.in_own_list.Goals as goal
use Rattle.list.proofs.listing.in_own_list.Goals.{then-get-name, else-get-name}

pub overflow_add-count : goal.overflow_add-count
overflow_add-count c = omega (arith, counted_most c.loop-v.invariant)

pub loop-v-preserved : goal.loop-v-preserved
loop-v-preserved c =
    let e = named_read (numbers_of c.args.names.now) c.args.u c.loop-v.v c.get-name.ensures.0 c.get.ensures.0 in
    elim c.if-get-name.branch [
      | then-get-name w ↦ rw w.count-is (counted_more c.loop-v.invariant e (eq-eqb _ _ w.if-get-name.true))
      | else-get-name w ↦ rw w.count-is (counted_over c.loop-v.invariant e (ne_eqb _ _ w.if-get-name.false))
    ]

pub returns : goal.returns
returns c = own_counted c.args.names.now _ c.loop-v.invariant (omega arith)
