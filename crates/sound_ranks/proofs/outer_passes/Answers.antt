-- `sound_ranks::outer_passes` meets its contract, by the invariant beside this file.
use mathlib.Core.Path.{ap₂}
use mathlib.Core.List.{[]}
use Prim.Native.Nat.{◌<◌}
use native.Mathlib.Omega.{arith}
use lib.Dec.{eqb}
use Rattle.std.proofs.lemmas.Bool.Decides.{nat_tests}
use Rattle.laws.proofs.Passed.{passed_none}
use Rattle.sound_groups.proofs.Many.{numbers_many}
use Rattle.stored.specs.Reading.{rows_of}
use Rattle.sound_ranks.specs.Reading.{tuples_read}
use Rattle.sound_ranks.proofs.Read.{s_was, e_was}
use Rattle.sound_ranks.proofs.Falls.{child_low, falls_more, falls_not, falls_all}
use Rattle.sound_ranks.proofs.Least.{least_none, least_more, least_all}
use Rattle.sound_ranks.proofs.outer_passes.Goals as goal
use Rattle.sound_ranks.proofs.outer_passes.Goals.{After-get-q}

low : (c : After-get-q) → c.get-q.result < c.args.tuples.now.k
low c =
    let same = c.requires.k_same in
    omega (arith, child_low c.args.rows.now.placed (omega (arith, c.requires.p_lt_k, same)) c.row-row.ensures.0 c.row-row.ensures.1.0 c.loop-i-test.true c.get-q.ensures.0, same)

pub loop-i-init : goal.loop-i-init
loop-i-init c = (passed_none _ _, least_none _ _ (e_was c.args.tuples.now.held [] c.requires.p_lt_k c.e-top.ensures.0))

pub e-requires : goal.e-requires
e-requires c = low (goal.at.e-requires c).After-get-q

pub returns-then-top-e : goal.returns-then-top-e
returns-then-top-e c =
    let T = c.args.tuples.now.held in
    falls_not (tuples_read c.args.tuples.now) (rows_of c.args.rows.now.rows) c.args.p c.row-row.ensures.0 c.row-row.ensures.1.0 c.loop-i-test.true c.get-q.ensures.0
    (e_was T [] (low (goal.at.returns-then-top-e c).After-get-q) c.e.ensures.0) (e_was T [] c.requires.p_lt_k c.e-top.ensures.0) _ c.if-top-e.true

pub s-requires : goal.s-requires
s-requires c = low (goal.at.s-requires c).After-get-q

pub loop-i-preserved : goal.loop-i-preserved
loop-i-preserved c =
    let T = c.args.tuples.now.held in
    let here = c.loop-i-test.true in
    let q = low (goal.at.loop-i-preserved c).After-get-q in (
      falls_more (tuples_read c.args.tuples.now) (rows_of c.args.rows.now.rows) c.args.p c.row-row.ensures.0 c.row-row.ensures.1.0 here c.get-q.ensures.0
          (e_was T [] q c.e.ensures.0) (e_was T [] c.requires.p_lt_k c.e-top.ensures.0) c.loop-i.invariant.0 c.if-top-e.false,
      least_more c.loop-i.invariant.1 (omega (arith, numbers_many c.row-row.result)) c.get-q.ensures.0 (s_was T [] q c.s.ensures.0)
          (grind (arith, nat_tests, c.min-s.ensures)),
    )

pub returns : goal.returns
returns c =
    falls_all (tuples_read c.args.tuples.now) (rows_of c.args.rows.now.rows) c.args.p c.row-row.ensures.0 c.row-row.ensures.1.0 c.loop-i.invariant.0 c.loop-i-test.false
    (rw (← c.row-row.ensures.0)
    (ap₂ eqb (s_was c.args.tuples.now.held [] c.requires.p_lt_k c.s-2.ensures.0)
    (least_all c.loop-i.invariant.1 (omega (arith, numbers_many c.row-row.result)))))
