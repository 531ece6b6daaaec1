-- `reach_rounds::reach_over` meets its contract. The invariant: the rounds that are left, from the marks at hand, come to all of them.
use Prim.Native.Nat.{◌-◌}
use lib.ListN.{length}
use Rattle.lineage.specs.Calls.{index_in}
use Rattle.reach_rounds.specs.Rounds.{swept_all}
use Rattle.reach_rounds.proofs.Rounding.{Rounding}
use Rattle.reach_rounds.proofs.reach_over.Given as goal

abbrev pub invariant-loop-round : goal.invariant-loop-round
invariant-loop-round l = Rounding (index_in l.index.image.bytes.now).names l.sources l.targets l.target (swept_all (index_in l.index.image.bytes.now))
    (length l.sources - l._round) l.initial.marks l.marks
