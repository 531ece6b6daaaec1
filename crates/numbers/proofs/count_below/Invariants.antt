-- `numbers::count_below` meets its contract. The invariant: the count is from `from` to `to`. The number at half tells on which side of half it is.
use Prim.Native.Nat.{◌-◌, ◌≤◌}
use Rattle.lineage.specs.Numbers.{numbers}
use Rattle.laws.specs.Rising.{count_below}
use Rattle.numbers.proofs.count_below.Given as goal

abbrev pub invariant-loop-from : goal.invariant-loop-from
invariant-loop-from l = (l.from ≤ count_below l.x (numbers l.w l.s l.k)) × ((count_below l.x (numbers l.w l.s l.k) ≤ l.to) × (l.to ≤ l.k))

abbrev pub decreases-loop-from : goal.decreases-loop-from
decreases-loop-from l = l.to - l.from
