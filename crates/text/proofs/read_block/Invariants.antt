-- `text::read_block` meets its contract. The loop's invariant: the lines passed, then what is still to be read behind them, are the whole
-- block. A turn passes one line; a line of another kind, or the most of them, ends the block.
use Rattle.text.proofs.Blocks.{Passing}
use Rattle.text.proofs.read_block.Given as goal

abbrev pub invariant-loop-i : goal.invariant-loop-i
invariant-loop-i l = Passing l.text l.at l.letter l.size l.most l.into l.i l.p
