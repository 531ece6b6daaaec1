-- `text_answering::put_answers` meets its contract. The loop's invariant: the lines that are put, then those of the questions still to be asked, are all lines.
use Rattle.text_answering.proofs.Turns.{Answering}
use Rattle.text_answering.proofs.put_answers.Given as goal

abbrev pub invariant-loop-i : goal.invariant-loop-i
invariant-loop-i l = Answering l.index l.asked l.initial.out l.i l.at l.out
