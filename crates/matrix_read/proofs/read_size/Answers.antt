-- `matrix_read::read_size` meets its contract: a line that does not begin with a digit is no size line.
use mathlib.Core.Logic.{inl, inr}
use mathlib.Core.Path.{◌∙◌}
use Rattle.matrix_read.proofs.Entries.{size_unrow}
use Rattle.matrix_read.proofs.read_size.Goals as goal

pub returns-in-Comment : goal.returns-in-Comment
returns-in-Comment c = size_unrow _ _ (λ e. let row = c.kind_at.ensures ∙ e in elim c.in-Comment.is [ inl k ↦ cc | inr k ↦ cc ])
