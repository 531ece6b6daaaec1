-- `sound_blocks::intervals_pass` meets its contract, by the invariant beside this file.
use mathlib.Core.Bool.{not}
use mathlib.Core.Path.{ap, refl}
use Rattle.laws.proofs.Passed.{passed_more, passed_not}
use Rattle.stored.specs.Reading.{rows_of}
use Rattle.sound_blocks.proofs.Blocks.{outer_fails, block_decides}
use Rattle.sound_blocks.proofs.intervals_pass.Goals as goal

pub returns-then-not-outer_passes : goal.returns-then-not-outer_passes
returns-then-not-outer_passes g c =
    passed_not c.loop-p.invariant c.loop-p-test.true
    (outer_fails c.args.ranked.now.labelling (rows_of c.args.rows.now.rows) c.loop-p.p c.by_place-tuples.ensures.0 c.outer_passes.ensures (ap not c.if-not-outer_passes.true)) refl

pub returns-then-not-block_passes : goal.returns-then-not-block_passes
returns-then-not-block_passes g c =
    passed_not c.loop-p.invariant c.loop-p-test.true
    (block_decides c.args.ranked.now.labelling (rows_of c.args.rows.now.rows) c.loop-p.p c.by_place-tuples.ensures.0 c.outer_passes.ensures (ap not c.if-not-outer_passes.false)
    c.block_passes.ensures) (ap not c.if-not-block_passes.true)

pub loop-p-preserved : goal.loop-p-preserved
loop-p-preserved g c =
    passed_more c.loop-p.invariant c.loop-p-test.true
    (block_decides c.args.ranked.now.labelling (rows_of c.args.rows.now.rows) c.loop-p.p c.by_place-tuples.ensures.0 c.outer_passes.ensures (ap not c.if-not-outer_passes.false)
    c.block_passes.ensures) (ap not c.if-not-block_passes.false)
