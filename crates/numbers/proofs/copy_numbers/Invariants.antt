-- `numbers::copy_numbers` meets its contract. The invariant: the first i numbers stand written from position at on, everything else is as it was lent, and p is
-- where the next one goes.
use mathlib.Core.Path.{◌≡◌}
use Prim.Native.Nat.{◌+◌, ◌*◌}
use lib.ListN.{length}
use Rattle.numbers.proofs.Written.{numbers_put}
use Rattle.numbers.proofs.copy_numbers.Given as goal

abbrev pub invariant-loop-i : goal.invariant-loop-i
invariant-loop-i l = (l.p ≡ l.at + l.v * l.i) × ((length l.out ≡ length l.initial.out) × (l.out ≡ numbers_put l.v l.at l.w l.from l.initial.out l.i))
