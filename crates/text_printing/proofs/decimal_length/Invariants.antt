-- `text_printing::decimal_length` meets its contract. The invariant: the digits counted and those of what is left are one more than all.
use mathlib.Core.Path.{◌≡◌}
use Prim.Native.Nat.{◌+◌, ◌≤◌}
use lib.ListN.{length}
use Rattle.text_lines.specs.Lines.{decimal}
use Rattle.text_printing.proofs.decimal_length.Given as goal

abbrev pub invariant-loop-y : goal.invariant-loop-y
invariant-loop-y l = (l.y ≤ l.x) × ((l.n + l.y ≤ l.x + 1) × (l.n + length (decimal l.y) ≡ length (decimal l.x) + 1))

abbrev pub decreases-loop-y : goal.decreases-loop-y
decreases-loop-y l = l.y
