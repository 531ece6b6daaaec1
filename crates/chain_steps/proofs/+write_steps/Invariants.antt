-- `chain_steps::write_steps` meets its contract: it writes one name; behind the target, and at the floor, what follows is left, and otherwise it is what the call on
-- the lowest marked child begins with. The level falls.
use Rattle.chain_steps.proofs.+write_steps.Given as goal

abbrev pub decreases-write_steps : goal.decreases-write_steps
decreases-write_steps l = l.lev
