-- `matrix_lines::header_stands` meets its contract: the header and the LF behind it stand first.
use mathlib.Core.Path.{◌∙◌}
use Rattle.matrix_lines.proofs.Lines.{header_starts}
use Rattle.matrix_lines.proofs.header_stands.Goals as goal

pub returns : goal.returns
returns c = c.starts_with.ensures.value ∙ header_starts _
