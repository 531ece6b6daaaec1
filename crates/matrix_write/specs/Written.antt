-- What writing answers and leaves, as the definitions have it.
use Rattle.std.specs.Prelude.{◌≡◌, List, Result, ℕ, length}
use Rattle.lineage.specs.Graph.{Graph}
use Rattle.lineage.specs.Stored.{form2}
use Rattle.lineage.specs.Calls.{Outcome}
use Rattle.matrix_lines.specs.Calls.{matrix_write_answer, matrix_write_output}
use Rattle.refusals.specs.declared.Refusal.{Refusal}
use Rattle.refusals.specs.Refusals.{outcome_by}

-- the text's length, or the refusal's numbers
abbrev pub written_of : Result ℕ Refusal → Outcome ℕ
written_of r = outcome_by (λ total. total) r

-- of an edge list and an output: what may be answered, and what the output may hold afterwards
pub record Allowed (G : Graph) (out : List ℕ) (r : Result ℕ Refusal) (out' : List ℕ) : Type 0 where
  pub answers : written_of r ≡ matrix_write_answer form2 G (length out)
  pub writes : out' ≡ matrix_write_output form2 G out
