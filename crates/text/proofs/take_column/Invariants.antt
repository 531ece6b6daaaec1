-- `text::take_column` meets its contract. The loop's invariant: of the pairs passed, the numbers stand in the list.
use mathlib.Core.Path.{◌≡◌}
use Prim.Native.Nat.{◌*◌}
use lib.ListN.{take}
use Rattle.text.specs.Text.{of_pairs}
use Rattle.text.proofs.take_column.Given as goal

abbrev pub invariant-loop-i : goal.invariant-loop-i
invariant-loop-i l = take l.i l.into ≡ of_pairs l.k (take (l.i * 2) l.pairs)
