-- `text_answering::put_answer` meets its contract: the question, what it is told, and LF, one put behind the other.
use Prim.Native.Nat.{◌+◌, ◌≤◌}
use native.Mathlib.Omega.{arith}
use lib.ListN.{length}
use Rattle.text.specs.Output.{answer_to}
use Rattle.text_printing.proofs.Putting.{told_short, question_short, put_put}
use Rattle.text_answering.proofs.put_answer.Goals as goal
use Rattle.text_answering.proofs.put_answer.Goals.{After-put_question-a}

-- there is room for what the question is told, and for LF
room : (q : After-put_question-a) → q.put_question-a.result + 37 ≤ length q.put_question-a.new.out
room q = omega (arith, question_short q.args.source q.args.target, q.put_question-a.ensures.behind, q.put_question-a.auto.out, q.requires)

pub put_told-b-requires : goal.put_told-b-requires
put_told-b-requires c = omega (arith, room (goal.at.put_told-b-requires c).After-put_question-a)

pub put_byte-requires : goal.put_byte-requires
put_byte-requires c =
    let a = c.args in
    omega (arith, room (goal.at.put_byte-requires c).After-put_question-a, told_short (answer_to a.index.now a.source a.target), c.put_told-b.ensures.behind, c.put_told-b.auto.out)

pub returns : goal.returns
returns c = put_put c.put_question-a.ensures (put_put c.put_told-b.ensures c.put_byte.ensures (omega (arith, room (goal.at.returns c).After-put_question-a))) (omega (arith, c.requires))
