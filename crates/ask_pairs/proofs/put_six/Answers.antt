-- `ask_pairs::put_six` meets its contract: the six stores are the six numbers put one after the other.
use native.Mathlib.Omega.{arith}
use Rattle.ask_pairs.proofs.Pairs.{six_put}
use Rattle.ask_pairs.proofs.put_six.Goals as goal

pub returns : goal.returns
returns c = six_put _ _ _ _ _ _ _ _ (omega arith)
