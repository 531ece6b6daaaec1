-- What a program in C may rely on that reads and writes Matrix Market texts: the outcomes of the definitions are read off the numbers, and two results that the contracts
-- allow are equal.
use mathlib.Core.Path.{◌≡◌, refl, sym, ◌∙◌}
use mathlib.Core.List.{List}
use Prim.Native.Nat.{ℕ}
use native.Mathlib.Omega.{arith}
use lib.ListN.{length}
use borrow.Author.Tests.{ne_eqb}
use Rattle.lineage.specs.Graph.{Graph}
use Rattle.lineage.specs.Stored.{Form, form2}
use Rattle.lineage.specs.Calls.{Outcome, refused, answered}
use Rattle.matrix_lines.specs.Matrix.{matrix_reading, matrix_text}
use Rattle.matrix_lines.specs.Calls.{MatrixSize, graph_in, edges, read_checks, matrix_read_answer, matrix_read_sources, matrix_read_targets, write_checks, matrix_write_answer, matrix_write_output}
use Rattle.face.specs.declared.DrobistenCounted.{DrobistenCounted}
use Rattle.face.specs.Host.{host_counted, counted_by}
use Rattle.face.proofs.Theorems.{Numbered, numbered, counted_back}
use Rattle.face_matrix.specs.declared.DrobistenMatrix.{DrobistenMatrix}
use Rattle.face_matrix.specs.Matrix.{host_matrix, matrix_by}

-- an outcome whose refusal is not 0 is read back
matrix_back : (o : Outcome MatrixSize) → Numbered o → matrix_by (host_matrix o) ≡ o
matrix_back (refused number extra) some = rw (ne_eqb number 0 (λ e. omega arith)) refl
matrix_back (answered a) some = refl

pub matrix_read : (F : Form) (text : List ℕ) (sources targets : ℕ) → matrix_by (host_matrix (matrix_read_answer F text sources targets)) ≡ matrix_read_answer F text sources targets
unfolding matrix_read_answer
matrix_read F text sources targets =
    let G : Graph = graph_in (matrix_reading text) in
    matrix_back (matrix_read_answer F text sources targets)
    (numbered (record { n = G.n; edges = edges G }) (read_checks F (matrix_reading text) sources targets) (omega arith, (omega arith, (omega arith, (omega arith, tt)))))

pub written_read : (F : Form) (G : Graph) (out : ℕ) → counted_by (host_counted (matrix_write_answer F G out)) ≡ matrix_write_answer F G out
unfolding matrix_write_answer
written_read F G out =
    counted_back (matrix_write_answer F G out)
    (numbered (length (matrix_text G)) (write_checks F G (matrix_text G) out) (omega arith, (omega arith, (omega arith, (omega arith, (omega arith, tt))))))

-- what the two calls may return and leave, by their contracts
pub record Reads (text sources targets : List ℕ) (r : DrobistenMatrix) (s t : List ℕ) : Type 0 where
  pub returns : r ≡ host_matrix (matrix_read_answer form2 text (length sources) (length targets))
  pub sources_hold : s ≡ matrix_read_sources form2 text sources targets
  pub targets_hold : t ≡ matrix_read_targets form2 text sources targets

pub record Writes (G : Graph) (out : List ℕ) (r : DrobistenCounted) (o : List ℕ) : Type 0 where
  pub returns : r ≡ host_counted (matrix_write_answer form2 G (length out))
  pub writes : o ≡ matrix_write_output form2 G out

-- two results are equal
pub read_once :
    {text sources targets : List ℕ} {r r' : DrobistenMatrix} {s s' t t' : List ℕ}
    → Reads text sources targets r s t → Reads text sources targets r' s' t' → (r ≡ r') × ((s ≡ s') × (t ≡ t'))
read_once A B = (A.returns ∙ sym B.returns, (A.sources_hold ∙ sym B.sources_hold, A.targets_hold ∙ sym B.targets_hold))

pub written_once : {G : Graph} {out : List ℕ} {r r' : DrobistenCounted} {o o' : List ℕ} → Writes G out r o → Writes G out r' o' → (r ≡ r') × (o ≡ o')
written_once A B = (A.returns ∙ sym B.returns, A.writes ∙ sym B.writes)
