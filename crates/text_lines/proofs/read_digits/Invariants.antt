-- `text_lines::read_digits` meets its contract. The loop's invariant: what is still to be read, behind the digits passed, says the same as all of it,
-- and so many digits more still fit.
use mathlib.Core.Path.{◌≡◌}
use Prim.Native.Nat.{◌+◌, ◌-◌, ◌*◌, ◌^◌, ◌≤◌}
use lib.ListN.{length, drop}
use Rattle.text_lines.specs.Reader.{digits_in}
use Rattle.text_lines.proofs.read_digits.Given as goal

abbrev pub invariant-loop-i : goal.invariant-loop-i
invariant-loop-i l = record {
  same : digits_in (l.left - l.i) l.v (l.at + l.i) (drop (l.at + l.i) l.text) ≡ digits_in l.left l.value l.at (drop l.at l.text);
  room : (l.v + 1) * 10 ^ (l.left - l.i) ≤ 10 ^ 9;
  inside : l.at + l.i ≤ length l.text;
}
