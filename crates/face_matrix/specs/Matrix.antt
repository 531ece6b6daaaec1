-- The numbers that a program in C is given for a Matrix Market text: the refusal's number is 0 where there is none, and with a refusal the numbers of the answer are 0.
use Rattle.std.specs.Prelude.{cond, eqb}
use Rattle.lineage.specs.Calls.{Outcome, refused, answered}
use Rattle.matrix_lines.specs.Calls.{MatrixSize}
use Rattle.face_matrix.specs.declared.DrobistenMatrix.{DrobistenMatrix}

-- a refusal with its extra number, or n and the number of edges
abbrev pub host_matrix : Outcome MatrixSize → DrobistenMatrix
host_matrix (refused number extra) = record { refusal = number; extra = extra; n = 0; edges = 0 }
host_matrix (answered a) = record { refusal = 0; extra = 0; n = a.n; edges = a.edges }

-- how they are read: no refusal has the number 0
abbrev pub matrix_by : DrobistenMatrix → Outcome MatrixSize
matrix_by r = cond (eqb r.refusal 0) (answered (record { n = r.n; edges = r.edges })) (refused r.refusal r.extra)
