-- What a Matrix Market text says, or its first bad line, and the text of an edge list (document 02, [1]).
use Rattle.std.specs.Prelude.{Bool, true, false, ◌&&◌, List, [], ◌∷◌, ◌++◌, map, ℕ, zero, suc, ◌+◌, ◌-◌, eqb, leb, length, get_or}
use Prim.Native.Char.{code}
use Rattle.lineage.specs.Lists.{joined, same_list, all_of}
use Rattle.lineage.specs.Graph.{Graph}
use Rattle.text_lines.specs.Lines.{bytes, lf, space, pieces, first_piece, other_pieces, is_decimal, value, decimal}

-- a line is its bytes, without the LF that ends it
abbrev pub Raw : Type 0
Raw = List ℕ

-- the one header
abbrev pub header : Raw
header = bytes "%%MatrixMarket matrix coordinate pattern general"

abbrev pub is_header : Raw → Bool
is_header l = same_list l header

-- `%` and any bytes
abbrev pub is_comment : Raw → Bool
is_comment l = eqb (get_or l 0 0) (code "%")

-- number i of a line, from 0
abbrev pub number : ℕ → Raw → ℕ
number i l = value (get_or (pieces space l) i [])

-- the most digits of a number
abbrev pub most_digits : ℕ
most_digits = 7

-- exactly `size` decimals, single spaces between them
unfoldable pub is_row : ℕ → Raw → Bool
unfolding is_decimal first_piece other_pieces
is_row size l = eqb (length (pieces space l)) size && all_of (is_decimal most_digits) (pieces space l)

-- rows, columns, entries: as many rows as columns
unfoldable pub is_size : Raw → Bool
unfolding is_row first_piece other_pieces
is_size l = is_row 3 l && eqb (number 0 l) (number 1 l)

-- from 1 to n
abbrev pub is_vertex : ℕ → ℕ → Bool
is_vertex n x = leb 1 x && leb x n

-- row and column, each from 1 to n
unfoldable pub is_entry : ℕ → Raw → Bool
unfolding is_row first_piece other_pieces
is_entry n l = is_row 2 l && (is_vertex n (number 0 l) && is_vertex n (number 1 l))

-- lines of one kind, one after the other, and the lines behind them
pub record Run : Type 0 where
  pub taken : List Raw
  pub rest : List Raw

-- no line more
abbrev pub stop : List Raw → Run
stop lines = record { taken = []; rest = lines }

-- the line, then those of the run
abbrev pub with_line : Raw → Run → Run
with_line l R = record { taken = l ∷ R.taken; rest = R.rest }

-- a line that passes and what follows it, or no line more
abbrev pub go_on : Bool → Raw → List Raw → (List Raw → Run) → Run
go_on true l lines more = with_line l (more lines)
go_on false l lines more = stop (l ∷ lines)

-- the lines that stand first and pass the test, at most `most`. The last piece is no line, since no LF ends it
unfoldable pub run : (Raw → Bool) → ℕ → List Raw → Run
run test zero lines = stop lines
run test (suc most) [] = stop []
run test (suc most) (l ∷ []) = stop (l ∷ [])
run test (suc most) (l ∷ (l' ∷ more)) = go_on (test l) l (l' ∷ more) (λ lines. run test most lines)

-- nothing stands behind the last LF: the one piece that is left has no byte
abbrev pub is_done : List Raw → Bool
is_done lines = eqb (length lines) 1 && eqb (length (joined lines)) 0

-- number i of the size line
abbrev pub size_at : ℕ → Run → ℕ
size_at i s = number i (get_or s.taken 0 [])

-- number i of each line, from 0 on where the text counts from 1
abbrev pub ends : ℕ → List Raw → List ℕ
ends i lines = map (λ l. number i l - 1) lines

-- what a good text says, or the first bad line from 1
pub data MatrixReading : Type 0 where
  says : Graph → MatrixReading
  bad_line : ℕ → MatrixReading

-- by whether the header is good and whether all lines are there and no more; otherwise the line behind the good ones is bad
abbrev pub judged : Bool → Bool → Graph → ℕ → MatrixReading
judged false whole G good = bad_line 1
judged true false G good = bad_line (suc good)
judged true true G good = says G

-- one header, one size line, as many entries as it says, and the end
abbrev pub saying : (h c s e : Run) → MatrixReading
saying h c s e =
    judged (eqb (length h.taken) 1)
    (eqb (length s.taken) 1 && (eqb (length e.taken) (size_at 2 s) && is_done e.rest))
    (record { n = size_at 0 s; sources = ends 0 e.taken; targets = ends 1 e.taken })
    (length h.taken + length c.taken + length s.taken + length e.taken)

-- the header, then comments, then the size line, then the entries, and no line more
unfoldable pub matrix_reading : List ℕ → MatrixReading
unfolding run is_size is_entry first_piece other_pieces
matrix_reading text =
    let h : Run = run is_header 1 (pieces lf text) in
    let c : Run = run is_comment (length h.rest) h.rest in
    let s : Run = run is_size 1 c.rest in
    let e : Run = run (is_entry (size_at 0 s)) (size_at 2 s) s.rest in
    saying h c s e

-- lines, one LF behind each
abbrev pub ended : List Raw → List ℕ
ended [] = []
ended (l ∷ lines) = l ++ (lf ∷ ended lines)

-- decimals, single spaces between them
abbrev pub row : ℕ → List ℕ → Raw
row x [] = decimal x
row x (y ∷ more) = decimal x ++ (space ∷ row y more)

-- the entries' lines, in the edge list's order, counted from 1
abbrev pub entry_rows : List ℕ → List ℕ → List Raw
entry_rows [] targets = []
entry_rows (u ∷ sources) [] = []
entry_rows (u ∷ sources) (v ∷ targets) = row (suc u) (suc v ∷ []) ∷ entry_rows sources targets

-- the text of an edge list: no comments
unfoldable pub matrix_text : Graph → List ℕ
matrix_text G = ended (header ∷ row G.n (G.n ∷ length G.sources ∷ []) ∷ entry_rows G.sources G.targets)
