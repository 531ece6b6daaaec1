-- `text_printing::put_byte` meets its contract: a store puts one byte.
use Rattle.text_printing.proofs.Putting.{put_one}
use Rattle.text_printing.proofs.put_byte.Goals as goal

pub returns : goal.returns
returns c = put_one _ _ _ c.requires
