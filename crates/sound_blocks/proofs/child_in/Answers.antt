-- `sound_blocks::child_in` meets its contract: the group's children rise, and q is one of them where it stands behind those below it.
use native.Mathlib.Omega.{arith}
use Rattle.numbers.proofs.Numbers.{count_most}
use Rattle.sound_groups.proofs.Many.{numbers_many}
use Rattle.sound_blocks.proofs.Search.{row_rises, child_none, child_at}
use Rattle.sound_blocks.proofs.child_in.Goals as goal

pub count_below-at-requires : goal.count_below-at-requires
count_below-at-requires c = record {
  width = c.row-row.result.held.width;
  k_in_bounds = c.row-row.result.held.long;
  rises = row_rises c.args.rows.now.placed c.requires c.row-row.ensures.0;
  low_bound = (omega arith, (count_most _ _ _ _, omega arith));
}

pub returns-then-row-at : goal.returns-then-row-at
returns-then-row-at c =
    child_none c.args.rows.now.placed c.requires c.row-row.ensures.0 _ c.count_below-at.ensures (omega (arith, numbers_many c.row-row.result))

pub returns : goal.returns
returns c =
    child_at c.args.rows.now.placed c.requires c.row-row.ensures.0 _ c.count_below-at.ensures (omega (arith, numbers_many c.row-row.result))
    c.get.ensures.0
