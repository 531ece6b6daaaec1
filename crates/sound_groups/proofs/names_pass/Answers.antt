-- `sound_groups::names_pass` meets its contract, by the invariant beside this file.
use mathlib.Core.Bool.{not}
use mathlib.Core.Path.{ap}
use native.Mathlib.Omega.{arith}
use Rattle.sound_groups.proofs.Many.{numbers_many}
use Rattle.sound_groups.proofs.Listed.{listed_none, listed_wrong, listed_skip, listed_over, listed_next, listed_other, listed_all}
use Rattle.sound_groups.proofs.names_pass.Goals as goal
use Rattle.sound_groups.proofs.names_pass.Goals.{then-get-v+else-p-groups+else-get-v-2, else-get-v}

pub loop-v-init : goal.loop-v-init
loop-v-init c = listed_none _ _ (numbers_many c.args.names.now) (numbers_many c.args.groups.now)

pub returns-then-not-own_name : goal.returns-then-not-own_name
returns-then-not-own_name c =
    listed_wrong _ _ (numbers_many c.args.names.now) c.loop-v.invariant c.loop-v-test.true c.own_name.ensures (ap not c.if-not-own_name.true)

pub returns-then-p-groups : goal.returns-then-p-groups
returns-then-p-groups c =
    listed_over _ _ (numbers_many c.args.names.now) c.loop-v.invariant c.loop-v-test.true c.own_name.ensures (ap not c.if-not-own_name.false) c.get.ensures.0
    c.if-get-v.true c.if-p-groups.true

pub returns-then-get-v-2 : goal.returns-then-get-v-2
returns-then-get-v-2 c =
    listed_other _ _ (numbers_many c.args.names.now) c.loop-v.invariant c.loop-v-test.true c.own_name.ensures (ap not c.if-not-own_name.false) c.get.ensures.0
    c.if-get-v.true (omega arith) c.get-then-get-v.ensures.0 c.if-get-v-2.true

pub loop-v-preserved : goal.loop-v-preserved
loop-v-preserved c =
    let N = numbers_many c.args.names.now in
    let low = c.loop-v-test.true in
    elim c.if-get-v.branch [
      | then-get-v+else-p-groups+else-get-v-2 w ↦
          rw w.p-is
          (listed_next _ _ N c.loop-v.invariant low c.own_name.ensures (ap not c.if-not-own_name.false) c.get.ensures.0 w.if-get-v.true (omega arith)
          w.get-then-get-v.ensures.0 w.if-get-v-2.false)
      | else-get-v w ↦ rw w.p-is (listed_skip _ _ N c.loop-v.invariant low c.own_name.ensures (ap not c.if-not-own_name.false) c.get.ensures.0 w.if-get-v.false)
    ]

pub returns : goal.returns
returns c = listed_all _ _ (numbers_many c.args.names.now) c.loop-v.invariant c.loop-v-test.false
