-- `chain_steps::count_steps` meets its contract. The invariant: the steps passed and the names from the place at hand on are all names.
use Prim.Native.Nat.{suc}
use lib.ListN.{length}
use Rattle.reach_sweep.specs.Fit.{names_of}
use Rattle.reach_sweep.specs.Sweep.{marked}
use Rattle.chain_steps.specs.Steps.{next_in, steps_in}
use Rattle.chain_steps.proofs.Steps.{Counting}
use Rattle.chain_steps.proofs.count_steps.Given as goal

abbrev pub invariant-loop-place : goal.invariant-loop-place
invariant-loop-place l = Counting l.groups.rows.k (marked (names_of l.groups) l.marks) (names_of l.groups) (next_in l.groups l.marks) l.t
    (length (steps_in l.groups l.marks l.t (suc l.lev) l.x)) l.lev l.place l.level

abbrev pub decreases-loop-place : goal.decreases-loop-place
decreases-loop-place l = l.level
