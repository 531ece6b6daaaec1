-- `chain_steps::write_chain` meets its contract. The invariant: of all names those from the place at hand on are left. A run leaves what follows from where it
-- stopped: nothing behind the target, otherwise the names from the lowest marked child on.
use Prim.Native.Nat.{suc}
use Rattle.chain_steps.specs.Steps.{TrailIn, steps_in, Left}
use Rattle.chain_steps.proofs.write_chain.Given as goal

abbrev pub invariant-loop-stop : goal.invariant-loop-stop
invariant-loop-stop l = TrailIn l.groups l.marks l.t l.place l.level
    × Left l.initial.out 0 (steps_in l.groups l.marks l.t (suc l.lev) l.x) l.out l.at (steps_in l.groups l.marks l.t (suc l.level) l.place)

abbrev pub decreases-loop-stop : goal.decreases-loop-stop
decreases-loop-stop l = l.level
