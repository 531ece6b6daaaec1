-- `stored_header::takes` meets its contract: the form's number is compared with the two ends, and the row says whether there is such a form.
use mathlib.Core.Bool.{◌&&◌}
use mathlib.Core.Path.{ap}
use lib.Dec.{leb}
use Rattle.stored_header.specs.declared.Row.{Row}
use Rattle.stored_header.proofs.takes.Goals as goal

pub returns : goal.returns
returns c = ap (λ (row : Row). (leb c.args.least c.args.number && leb c.args.number c.args.most) && row.known) c.form_row-row.ensures
