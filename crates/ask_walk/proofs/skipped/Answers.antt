-- `ask_walk::skipped` meets its contract: its two tests are those of the definition, in the same order.
use Rattle.ask_walk.proofs.Stamped.{skips_mark}
use Rattle.ask_walk.proofs.skipped.Goals as goal

pub returns : goal.returns
returns c =
    skips_mark c.args.w c.args.t c.args.groups.now c.args.levels.now c.args.marks.now c.args.stamp c.args.h _ _ c.num.ensures.0
    c.num-2.ensures.0 c.if-num.false c.num-name.result c.num-name.ensures.0 c.requires.h_in_bounds
