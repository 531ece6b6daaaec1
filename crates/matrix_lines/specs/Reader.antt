-- What the functions on lines find in the bytes from a position on.
use Rattle.std.specs.Prelude.{Bool, true, false, ◌&&◌, List, [], ◌∷◌, map, ◌≡◌, ℕ, suc, ◌+◌, ◌≤◌, eqb, length, drop}
use Prim.Native.Char.{code}
use Rattle.text_lines.specs.Lines.{lf, space, is_digit, first_piece, other_pieces, pieces, value}
use Rattle.text_lines.specs.Reader.{Found, found, none, is_more}
use Rattle.matrix_lines.specs.declared.LineKind.{LineKind}
use Rattle.matrix_lines.specs.declared.LineKind.TheVariants.{Comment, Row, Neither}
use Rattle.matrix_lines.specs.Matrix.{Raw, is_header, is_row, Run, run}

-- the first line, ended by LF, is the header
abbrev pub header_in : List ℕ → Bool
header_in s = is_more (other_pieces lf s) && is_header (first_piece lf s)

-- what a line is, by the tests of its first byte for `%` and for a digit
abbrev pub kind_by : Bool → Bool → LineKind
kind_by true digit = Comment
kind_by false true = Row
kind_by false false = Neither

-- the line that stands first
unfoldable pub kind_in : List ℕ → LineKind
kind_in [] = Neither
kind_in (b ∷ more) = kind_by (eqb b (code "%")) (is_digit b)

-- all lines that stand first and pass the test
abbrev pub all_run : (Raw → Bool) → List ℕ → Run
all_run test s = run test (length (pieces lf s)) (pieces lf s)

-- a run was passed from `at` on: how many lines, and where the text goes on; a line takes a byte at least
pub record RunInto (text : List ℕ) (at : ℕ) (R : Run) (count next : ℕ) : Type 0 where
  pub counted : length R.taken ≡ count
  pub rest : R.rest ≡ pieces lf (drop next text)
  pub inside : next ≤ length text
  pub spent : at + count ≤ next

-- these numbers and so many bytes, or none
abbrev pub found_row : Bool → List ℕ → ℕ → Found
found_row true numbers size = found numbers size
found_row false numbers size = none

-- the line that stands first, where an LF ends it and it is a row of `size` numbers; its bytes count from here
unfoldable pub row_in : ℕ → List ℕ → Found
unfolding is_row first_piece other_pieces
row_in size s =
    found_row (is_more (other_pieces lf s) && is_row size (first_piece lf s)) (map value (pieces space (first_piece lf s))) (suc (length (first_piece lf s)))
