-- `sound_blocks::block_passes` meets its contract, by the invariant beside this file.
use mathlib.Core.Bool.{not}
use mathlib.Core.Path.{ap, ◌∙◌}
use native.Mathlib.Omega.{arith}
use Rattle.laws.proofs.Tests.{told_true, told_false}
use Rattle.stored.specs.Reading.{rows_of}
use Rattle.stored.proofs.Sections.{places_long}
use Rattle.sound_groups.proofs.Many.{rows_many}
use Rattle.sound_ranks.specs.Reading.{labelling_read}
use Rattle.sound_blocks.proofs.Walk.{walks_none, walks_end, walks_stop, walks_less, walks_left}
use Rattle.sound_blocks.proofs.Ranked.{place_low, m_some, e_some, e_most, goes_left}
use Rattle.sound_blocks.proofs.Blocks.{block_is}
use Rattle.sound_blocks.proofs.block_passes.Goals as goal

pub overflow_sub-low : goal.overflow_sub-low
overflow_sub-low g c = omega (arith, m_some c.args.ranked.now.ranked c.requires.p_lt_k c.m-low.ensures.0)

pub overflow_sub-rank : goal.overflow_sub-rank
overflow_sub-rank g c = omega (arith, e_some c.args.ranked.now.ranked c.requires.p_lt_k c.e-rank.ensures.0)

pub loop-rank-init : goal.loop-rank-init
loop-rank-init g c =
    let l = c.args.ranked.now.labelling in
    walks_none _ _ _ _ _
    (omega (arith, e_most c.args.ranked.now.ranked (places_long l.width g.row.Z l.tuples.now l.places.now l.k) c.requires.p_lt_k c.e-rank.ensures.0))

pub returns-then-not-child_in : goal.returns-then-not-child_in
returns-then-not-child_in g c =
    let l = c.args.ranked.now.labelling in
    walks_stop c.loop-rank.invariant (goes_left c.args.ranked.now.ranked) c.loop-rank-test.true c.place-child.ensures.0
    (told_false c.child_in.ensures (ap not c.if-not-child_in.true))
    ∙ block_is (rows_of c.args.rows.now.rows) (labelling_read g.row.Z l) c.args.p (rows_many c.args.rows.now.rows ∙ c.requires.k_same) c.m-low.ensures.0
    c.e-rank.ensures.0

pub m-rank-requires : goal.m-rank-requires
m-rank-requires g c = (omega arith, place_low c.args.ranked.now.ranked (omega arith) c.place-child.ensures.0)

pub overflow_sub-rank-in-loop-rank-2 : goal.overflow_sub-rank-in-loop-rank-2
overflow_sub-rank-in-loop-rank-2 g c =
    let N = c.args.ranked.now.ranked in
    omega (arith, m_some N (place_low N (omega arith) c.place-child.ensures.0) c.m-rank.ensures.0)

pub loop-rank-smaller : goal.loop-rank-smaller
loop-rank-smaller g c =
    walks_less c.loop-rank.invariant (goes_left c.args.ranked.now.ranked) c.loop-rank-test.true c.place-child.ensures.0 c.m-rank.ensures.0

pub loop-rank-preserved : goal.loop-rank-preserved
loop-rank-preserved g c =
    walks_left c.loop-rank.invariant (goes_left c.args.ranked.now.ranked) c.loop-rank-test.true c.place-child.ensures.0 c.m-rank.ensures.0
    (told_true c.child_in.ensures (ap not c.if-not-child_in.false))

pub returns : goal.returns
returns g c =
    let l = c.args.ranked.now.labelling in
    walks_end c.loop-rank.invariant c.loop-rank-test.false
    ∙ block_is (rows_of c.args.rows.now.rows) (labelling_read g.row.Z l) c.args.p (rows_many c.args.rows.now.rows ∙ c.requires.k_same) c.m-low.ensures.0
    c.e-rank.ensures.0
