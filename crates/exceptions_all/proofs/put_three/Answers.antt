-- `exceptions_all::put_three` meets its contract: the three stores are the three numbers put one after the other.
use Rattle.exceptions_all.proofs.Pairs.{three_put}
use Rattle.exceptions_all.proofs.put_three.Goals as goal

pub returns : goal.returns
returns c = three_put _ _ _ _ _ c.requires
