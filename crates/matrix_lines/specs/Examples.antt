-- Good texts, bad texts in one way each, and every refusal of the two calls: one table, a single claim, by computation.
use Rattle.std.specs.Prelude.{false, ◌≡◌, refl, List, [], ◌∷◌, ◌++◌, ℕ, length, replicate}
use Prim.Native.String.{String}
use Rattle.lineage.specs.Lists.{Every}
use Rattle.lineage.specs.Graph.{Graph}
use Rattle.lineage.specs.Stored.{Form, form1}
use Rattle.lineage.specs.Calls.{refused, answered}
use Rattle.text_lines.specs.Lines.{bytes, decimal_by}
use Rattle.matrix_lines.specs.Matrix.{header, says, bad_line, matrix_reading, matrix_text}
use Rattle.matrix_lines.specs.Calls.{MatrixSize, matrix_read_answer, matrix_read_sources, matrix_read_targets, matrix_write_answer, matrix_write_output}

-- the header line, then these lines
abbrev behind_header : String → List ℕ
behind_header lines = header ++ (bytes "\n" ++ bytes lines)

-- a form with small bounds, so that a text beyond them is short
abbrev small : Form
small = record { number = 1; width = 2; vertices = 3; edges = 2; entries = 2; labellings = 1; by_place = 3; tree = false }

abbrev graph : ℕ → List ℕ → List ℕ → Graph
graph n sources targets = record { n = n; sources = sources; targets = targets }

data Example : Type 0 where
  -- behind the header these lines say this edge list; with no comments the edge list gives the same text back
  reads : (lines : String) → Graph → Example
  writes : (lines : String) → Graph → Example
  -- a whole text, or lines behind the header, and the first bad line
  bad_text : (text : String) (line : ℕ) → Example
  bad : (lines : String) (line : ℕ) → Example
  -- the read call with lists of these lengths refuses
  read_refused : Form → (lines : String) (sources targets number extra : ℕ) → Example
  -- the write call with an output of this length refuses
  write_refused : Form → Graph → (out number extra : ℕ) → Example
  -- what the lent lists and the output hold after success
  read_holds : (lines : String) (sources targets sources' targets' : List ℕ) → MatrixSize → Example
  write_holds : (lines : String) → Graph → Example

-- lent memory: 7 everywhere
abbrev lent : ℕ → List ℕ
lent size = replicate size 7

abbrev Right : Example → Type 0
Right (reads lines G) = matrix_reading (behind_header lines) ≡ says G
Right (writes lines G) = (matrix_text G ≡ behind_header lines) × (matrix_reading (behind_header lines) ≡ says G)
Right (bad_text text line) = matrix_reading (bytes text) ≡ bad_line line
Right (bad lines line) = matrix_reading (behind_header lines) ≡ bad_line line
Right (read_refused F lines sources targets number extra) =
    (matrix_read_answer F (behind_header lines) sources targets ≡ refused number extra)
    × ((matrix_read_sources F (behind_header lines) (lent sources) (lent targets) ≡ lent sources)
    × (matrix_read_targets F (behind_header lines) (lent sources) (lent targets) ≡ lent targets))
Right (write_refused F G out number extra) = (matrix_write_answer F G out ≡ refused number extra) × (matrix_write_output F G (lent out) ≡ lent out)
Right (read_holds lines sources targets sources' targets' size) =
    (matrix_read_answer form1 (behind_header lines) (length sources) (length targets) ≡ answered size)
    × ((matrix_read_sources form1 (behind_header lines) sources targets ≡ sources') × (matrix_read_targets form1 (behind_header lines) sources targets ≡ targets'))
Right (write_holds lines G) =
    (matrix_write_answer form1 G (length (behind_header lines)) ≡ answered (length (behind_header lines)))
    × (matrix_write_output form1 G (behind_header lines ++ (7 ∷ [])) ≡ behind_header lines ++ (7 ∷ []))

abbrev table : List Example
table =
    -- good texts: no vertex, no entry, repeats and a self-loop, the greatest n
    writes "0 0 0\n" (graph 0 [] [])
    ∷ writes "3 3 0\n" (graph 3 [] [])
    ∷ writes "4 4 5\n1 2\n1 3\n4 2\n1 2\n3 3\n" (graph 4 (0 ∷ 0 ∷ 3 ∷ 0 ∷ 2 ∷ []) (1 ∷ 2 ∷ 1 ∷ 1 ∷ 2 ∷ []))
    ∷ writes "9999999 9999999 1\n9999999 10\n" (graph 9999999 (9999998 ∷ []) (9 ∷ []))
    -- comments: `%` alone, any bytes, the header again
    ∷ reads "%\n% \tany \r % 07 \n%%MatrixMarket matrix coordinate pattern general\n2 2 1\n2 1\n" (graph 2 (1 ∷ []) (0 ∷ []))
    -- the header: no text, a blank line, one byte less, another, one more, CR, no LF, a comment in its place
    ∷ bad_text "" 1
    ∷ bad_text "\n" 1
    ∷ bad_text "%%MatrixMarket matrix coordinate pattern genera\n0 0 0\n" 1
    ∷ bad_text "%%MatrixMarket matrix coordinate pattern General\n0 0 0\n" 1
    ∷ bad_text "%%MatrixMarket matrix coordinate pattern general \n0 0 0\n" 1
    ∷ bad_text "%%MatrixMarket matrix coordinate pattern general\r\n0 0 0\n" 1
    ∷ bad_text "%%MatrixMarket matrix coordinate pattern general" 1
    ∷ bad_text "%\n%\n0 0 0\n" 1
    -- the size line: missing, missing behind a comment, a blank line, two numbers, four, rows and columns unequal, no LF
    ∷ bad "" 2
    ∷ bad "% no more\n" 3
    ∷ bad "\n2 2 0\n" 2
    ∷ bad "2 2\n" 2
    ∷ bad "2 2 0 0\n" 2
    ∷ bad "2 3 0\n" 2
    ∷ bad "2 2 0" 2
    -- a comment without LF
    ∷ bad "%" 2
    -- a number: needless zero, sign, a letter, eight digits, two spaces, a space first or last, a tab, CR
    ∷ bad "2 2 00\n" 2
    ∷ bad "+2 +2 0\n" 2
    ∷ bad "2 2 x\n" 2
    ∷ bad "10000000 10000000 0\n" 2
    ∷ bad "2  2 0\n" 2
    ∷ bad " 2 2 0\n" 2
    ∷ bad "2 2 0 \n" 2
    ∷ bad "2\t2 0\n" 2
    ∷ bad "2 2 0\r\n" 2
    -- an entry: 0, over n, one number, three, a needless zero, a comment or a blank line in its place, no LF
    ∷ bad "2 2 1\n0 1\n" 3
    ∷ bad "2 2 1\n1 0\n" 3
    ∷ bad "2 2 1\n3 1\n" 3
    ∷ bad "2 2 1\n1 3\n" 3
    ∷ bad "2 2 1\n1\n" 3
    ∷ bad "2 2 1\n1 2 1\n" 3
    ∷ bad "2 2 1\n1 02\n" 3
    ∷ bad "2 2 2\n1 2\n% late\n2 1\n" 4
    ∷ bad "2 2 2\n1 2\n\n2 1\n" 4
    ∷ bad "2 2 1\n1 2" 3
    -- an entry is missing, one is too many, a blank line or a byte behind the last
    ∷ bad "2 2 2\n1 2\n" 4
    ∷ bad "2 2 1\n1 2\n2 1\n" 4
    ∷ bad "2 2 1\n1 2\n\n" 4
    ∷ bad "2 2 1\n1 2\n " 4
    -- the read call: 18 before 16, 16 for either list, 16 before 1 and 3, 1 before 3, 3
    ∷ read_refused form1 "5000 5000 2\n1 2\n" 0 0 18 4
    ∷ read_refused form1 "2 2 2\n1 2\n2 1\n" 1 2 16 2
    ∷ read_refused form1 "2 2 2\n1 2\n2 1\n" 2 1 16 2
    ∷ read_refused small "4 4 3\n1 2\n2 1\n1 1\n" 3 2 16 3
    ∷ read_refused form1 "4097 4097 0\n" 0 0 1 0
    ∷ read_refused small "4 4 3\n1 2\n2 1\n1 1\n" 3 3 1 0
    ∷ read_refused small "3 3 3\n1 2\n2 1\n1 1\n" 3 3 3 0
    -- the write call: 1, 2, 3, 7 (of either end, the first), 9; each before the next
    ∷ write_refused form1 (graph 4097 (0 ∷ []) []) 0 1 0
    ∷ write_refused small (graph 3 (0 ∷ 1 ∷ 2 ∷ []) (9 ∷ [])) 0 2 0
    ∷ write_refused small (graph 3 (0 ∷ 1 ∷ 2 ∷ []) (9 ∷ 0 ∷ 0 ∷ [])) 0 3 0
    ∷ write_refused form1 (graph 3 (0 ∷ 1 ∷ 3 ∷ []) (0 ∷ 3 ∷ 0 ∷ [])) 0 7 1
    ∷ write_refused form1 (graph 3 (0 ∷ 3 ∷ []) (0 ∷ 2 ∷ [])) 0 7 1
    ∷ write_refused form1 (graph 3 (0 ∷ []) (2 ∷ [])) 58 9 59
    -- what the lists and the output hold after success: past what is written they keep their contents
    ∷ read_holds "4 4 2\n1 4\n3 2\n" (7 ∷ 7 ∷ 7 ∷ []) (8 ∷ 8 ∷ []) (0 ∷ 2 ∷ 7 ∷ []) (3 ∷ 1 ∷ []) (record { n = 4; edges = 2 })
    ∷ write_holds "3 3 1\n1 3\n" (graph 3 (0 ∷ []) (2 ∷ []))
    ∷ []

claim : Every Right table
unfolding decimal_by matrix_reading matrix_text matrix_read_answer matrix_read_sources matrix_read_targets matrix_write_answer matrix_write_output
claim =
    ((refl, refl), ((refl, refl), ((refl, refl), ((refl, refl), (refl, (refl, (refl, (refl, (refl, (refl, (refl, (refl, (refl, (refl, (refl, (refl, (refl, (refl, (refl, (refl, (refl, (refl, (refl, (refl, (refl, (refl, (refl, (refl, (refl, (refl, (refl, (refl, (refl, (refl, (refl, (refl, (refl, (refl, (refl, (refl, (refl, (refl, (refl, (refl, ((refl, (refl, refl)), ((refl, (refl, refl)), ((refl, (refl, refl)), ((refl, (refl, refl)), ((refl, (refl, refl)), ((refl, (refl, refl)), ((refl, (refl, refl)), ((refl, refl), ((refl, refl), ((refl, refl), ((refl, refl), ((refl, refl), ((refl, refl), ((refl, (refl, refl)), ((refl, refl), tt)))))))))))))))))))))))))))))))))))))))))))))))))))))))))))
