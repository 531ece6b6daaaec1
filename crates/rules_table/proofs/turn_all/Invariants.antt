-- `rules_table::turn_all` meets its contract. The invariant: the records that the loop has passed are turned, and the rest are as they were lent.
use Rattle.std.proofs.Common.{◌≡◌, map, take, drop, ◌++◌}
use Rattle.rules_table.specs.Table.{rule_by}
use Rattle.rules_table.proofs.turn_all.Given as goal

abbrev pub invariant-loop-r : goal.invariant-loop-r
invariant-loop-r l = l.rules ≡ map (rule_by l.marks l.n) (take l.r-index l.initial.rules) ++ drop l.r-index l.initial.rules
