-- `text_run::put_refused` meets its contract: the refusal, and LF behind it.
use mathlib.Core.Path.{ap₂}
use native.Mathlib.Omega.{arith}
use Rattle.text.specs.Output.{refusal}
use Rattle.text_printing.proofs.Putting.{two_short, put_put, put_same}
use Rattle.text_run.proofs.put_refused.Goals as goal

pub put_byte-requires : goal.put_byte-requires
put_byte-requires c = omega (arith, two_short c.number.result c.extra.result, c.put_refusal-a.ensures.behind, c.put_refusal-a.auto.out, c.requires)

pub returns : goal.returns
returns c = put_put (put_same (ap₂ refusal c.number.ensures c.extra.ensures) c.put_refusal-a.ensures) c.put_byte.ensures (omega (arith, c.requires))
