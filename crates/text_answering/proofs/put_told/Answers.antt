-- `text_answering::put_told` meets its contract: what `ask_form1` gives is put, an answer or a refusal.
use mathlib.Core.Path.{ap, ap₂, ◌∙◌}
use Rattle.text.specs.Output.{refusal, told}
use Rattle.text_printing.proofs.Putting.{put_same}
use Rattle.text_answering.proofs.put_told.Goals as goal

pub returns-in-Ok : goal.returns-in-Ok
returns-in-Ok c = put_same (ap told c.in-Ok.ensures.result_value) c.put_said.ensures

pub returns-in-Err : goal.returns-in-Err
returns-in-Err c = put_same (ap₂ refusal c.number.ensures c.extra.ensures ∙ ap told c.in-Err.ensures.result_value) c.put_refusal.ensures
