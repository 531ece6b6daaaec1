-- `sound_blocks::roots_pass` meets its contract, by the invariant beside this file.
use mathlib.Core.Path.{sym, ◌∙◌}
use native.Mathlib.Omega.{arith}
use borrow.Author.Tests.{eq-eqb, ne_eqb}
use Rattle.sound_blocks.proofs.Walk.{walks_end, walks_stop, walks_less, walks_left}
use Rattle.sound_blocks.proofs.Ranked.{place_low, m_some, goes_left}
use Rattle.sound_blocks.proofs.roots_pass.Goals as goal

pub bounds-marks-root : goal.bounds-marks-root
bounds-marks-root g c = omega (arith, place_low c.args.ranked.now.ranked (omega arith) c.place-root.ensures.0, c.requires)

pub returns-then-marks-root-ne0 : goal.returns-then-marks-root-ne0
returns-then-marks-root-ne0 g c =
    walks_stop c.loop-rank.invariant (goes_left c.args.ranked.now.ranked) c.loop-rank-test.true c.place-root.ensures.0 (ne_eqb _ _ c.if-marks-root-ne0.true)

pub m-rank-requires : goal.m-rank-requires
m-rank-requires g c = (omega arith, place_low c.args.ranked.now.ranked (omega arith) c.place-root.ensures.0)

pub overflow_sub-rank-in-loop-rank : goal.overflow_sub-rank-in-loop-rank
overflow_sub-rank-in-loop-rank g c =
    let N = c.args.ranked.now.ranked in
    omega (arith, m_some N (place_low N (omega arith) c.place-root.ensures.0) c.m-rank.ensures.0)

pub loop-rank-smaller : goal.loop-rank-smaller
loop-rank-smaller g c =
    walks_less c.loop-rank.invariant (goes_left c.args.ranked.now.ranked) c.loop-rank-test.true c.place-root.ensures.0 c.m-rank.ensures.0

pub loop-rank-preserved : goal.loop-rank-preserved
loop-rank-preserved g c =
    walks_left c.loop-rank.invariant (goes_left c.args.ranked.now.ranked) c.loop-rank-test.true c.place-root.ensures.0 c.m-rank.ensures.0
    (eq-eqb _ _ c.if-marks-root-ne0.false)

pub returns : goal.returns
returns g c = sym (eq-eqb c.loop-rank.rank 0 (omega arith)) ∙ walks_end c.loop-rank.invariant c.loop-rank-test.false
