-- What the read call answers and leaves in the lent lists.
use Rattle.std.specs.Prelude.{List, ◌≡◌, Result, Ok, Err, ℕ, length}
use Rattle.lineage.specs.Stored.{form2}
use Rattle.lineage.specs.Calls.{Outcome, refused, answered}
use Rattle.matrix_lines.specs.Calls.{MatrixSize, matrix_read_answer, matrix_read_sources, matrix_read_targets}
use Rattle.matrix_read.specs.declared.MatrixRead.{MatrixRead}
use Rattle.matrix_read.specs.declared.MatrixRefusal.{MatrixRefusal}
use Rattle.matrix_read.specs.declared.MatrixRefusal.TheVariants.{BadMatrix, ListShort, ManyVertices, ManyEdges}

-- the number and the extra number that the document gives each refusal
abbrev pub number_of : MatrixRefusal → ℕ
number_of (BadMatrix extra) = 18
number_of (ListShort extra) = 16
number_of ManyVertices = 1
number_of ManyEdges = 3

abbrev pub extra_of : MatrixRefusal → ℕ
extra_of (BadMatrix extra) = extra
extra_of (ListShort extra) = extra
extra_of ManyVertices = 0
extra_of ManyEdges = 0

-- n and the number of edges, or the refusal's numbers
abbrev pub read_of : Result MatrixRead MatrixRefusal → Outcome MatrixSize
read_of (Ok r) = answered (record { n = r.n; edges = r.edges })
read_of (Err e) = refused (number_of e) (extra_of e)

pub record Answered (text sources targets : List ℕ) (r : Result MatrixRead MatrixRefusal) (sources' targets' : List ℕ) : Type 0 where
  pub answers : read_of r ≡ matrix_read_answer form2 text (length sources) (length targets)
  pub sources_hold : sources' ≡ matrix_read_sources form2 text sources targets
  pub targets_hold : targets' ≡ matrix_read_targets form2 text sources targets
