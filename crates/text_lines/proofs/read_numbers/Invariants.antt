-- `text_lines::read_numbers` meets its contract. The loop's invariant: the numbers in the list, then what is still to be read behind them, is what
-- the whole line says. A turn passes a space and a number; at the end an LF is left.
use mathlib.Core.Path.{◌≡◌}
use lib.ListN.{take, drop}
use mathlib.Core.List.{[]}
use Rattle.text_lines.specs.Reader.{after, line_in}
use Rattle.text_lines.proofs.Words.{still}
use Rattle.text_lines.proofs.read_numbers.Given as goal

abbrev pub invariant-loop-j : goal.invariant-loop-j
invariant-loop-j l = record {
  kept : take l.base l.into ≡ take l.base l.initial.into;
  whole : still l.most l.text l.into l.base l.size l.j l.p ≡ after (take l.base l.initial.into) l.at (line_in l.most [] l.size (drop l.at l.text));
}
