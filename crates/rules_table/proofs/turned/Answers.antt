-- `rules_table::turned` meets its contract: the state is told by the mark of the vertex, and the rest is copied.
use mathlib.Core.Path.{ap}
use Rattle.rules_table.specs.Table.{with_state, rule_by}
use Rattle.rules_table.proofs.turned.Goals as goal

pub returns : goal.returns
unfolding rule_by
returns c = ap (with_state c.args.r) c.state_after.ensures
