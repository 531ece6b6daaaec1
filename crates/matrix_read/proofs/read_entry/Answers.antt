-- `matrix_read::read_entry` meets its contract: a line that does not begin with a digit is no entry.
use mathlib.Core.Path.{sym, ◌∙◌}
use Rattle.matrix_read.proofs.Entries.{entry_unrow}
use Rattle.matrix_read.proofs.read_entry.Goals as goal

pub returns-in-Comment : goal.returns-in-Comment
returns-in-Comment c = entry_unrow _ _ _ (λ e. let same = sym c.in-Comment.is ∙ (c.kind_at.ensures ∙ e) in cc)

pub returns-in-Neither : goal.returns-in-Neither
returns-in-Neither c = entry_unrow _ _ _ (λ e. let same = sym c.in-Neither.is ∙ (c.kind_at.ensures ∙ e) in cc)
