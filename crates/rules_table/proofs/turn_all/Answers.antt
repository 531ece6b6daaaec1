-- `rules_table::turn_all` meets its contract, by the invariant beside this file.
use Rattle.std.proofs.Common.{arith}
use Rattle.std.proofs.lemmas.List.Edits.{map_over_more}
use Rattle.std.proofs.lemmas.List.{get_or_default}
use Rattle.rules_table.specs.Table.{rule_by}
use Rattle.rules_table.proofs.turn_all.Goals as goal

pub loop-r-preserved : goal.loop-r-preserved
loop-r-preserved c =
    let i = c.loop-r.r-index in
    rw c.turned.ensures
    (map_over_more (rule_by c.args.marks.now c.args.n) c.args.rules.now c.loop-r.rules i _ (omega arith) c.loop-r.invariant (get_or_default c.loop-r.rules i _ _ (omega arith)))
