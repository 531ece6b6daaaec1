-- `exceptions_all::ask_each` meets its contract, by the invariant beside this file.
use Rattle.exceptions_all.proofs.Pairs.{asking_none, asking_more}
use Rattle.exceptions_all.proofs.ask_each.Goals as goal
use Rattle.exceptions_all.proofs.ask_each.Goals.{In-loop-i}

pub loop-i-init : goal.loop-i-init
loop-i-init c = asking_none _ _ _ _ _

pub loop-i-preserved : goal.loop-i-preserved
loop-i-preserved c = asking_more _ _ _ _ c.loop-i.invariant c.requires.sources_len.1 c.loop-i-test.true c.put_pair.ensures
