-- What a text says, with its entries still to be stored.
use Rattle.std.specs.Prelude.{List, ◌≡◌, Result, Ok, Err, ℕ, ◌≤◌, length, drop}
use Rattle.text_lines.specs.Lines.{lf, pieces}
use Rattle.matrix_lines.specs.Matrix.{Run, is_entry, run, ends, says, bad_line, matrix_reading}
use Rattle.matrix_read.specs.declared.Survey.{Survey as SurveyRead}

-- the entry lines that stand first from a position on, at most `most`
abbrev pub entries_from : ℕ → ℕ → List ℕ → ℕ → Run
entries_from n most text p = run (is_entry n) most (pieces lf (drop p text))

-- as many entry lines as were counted stand from `at` on, and they are what the text says
pub record Stands (text : List ℕ) (n entries at : ℕ) : Type 0 where
  pub reads :
      matrix_reading text
      ≡ says (record { n = n; sources = ends 0 (entries_from n entries text at).taken; targets = ends 1 (entries_from n entries text at).taken })
  pub counted : length (entries_from n entries text at).taken ≡ entries
  pub inside : at ≤ length text

abbrev pub Surveyed : List ℕ → Result SurveyRead ℕ → Type 0
Surveyed text (Ok s) = Stands text s.n s.entries s.at
Surveyed text (Err line) = matrix_reading text ≡ bad_line line
