-- `text_answering::put_answers` meets its contract, by the invariant beside this file.
use native.Mathlib.Omega.{arith}
use Rattle.text_answering.proofs.Turns.{answering_begins, answering_turns, answering_ends}
use Rattle.text_answering.proofs.put_answers.Goals as goal

pub loop-i-init : goal.loop-i-init
loop-i-init c = answering_begins _ _ _

pub loop-i-preserved : goal.loop-i-preserved
loop-i-preserved c = answering_turns c.loop-i.invariant (omega arith) c.put_answer-at.ensures

pub returns : goal.returns
returns c = answering_ends c.loop-i.invariant (omega arith)
