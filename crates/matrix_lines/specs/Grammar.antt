-- What a text of the subset is, told without reading it (document 02, [1]): the header, comment lines, the size line and the entries, one LF behind each, every number as its
-- decimal. And what its first bad line is.
use Rattle.std.specs.Prelude.{true, not, List, [], ◌∷◌, ◌++◌, ◌≡◌, ℕ, suc, ◌≤◌, ◌<◌, eqb, length, take}
use Rattle.lineage.specs.Lists.{all_of, Every}
use Rattle.lineage.specs.Graph.{Graph}
use Rattle.text_lines.specs.Lines.{lf, pieces}
use Rattle.matrix_lines.specs.Matrix.{Raw, header, is_comment, number, is_size, is_entry, ended, row, entry_rows}

-- the greatest number of seven digits
abbrev pub most_written : ℕ
most_written = 9999999

-- an edge list that can be written: ends below n, and n and the number of edges of at most seven digits
pub record Writable (G : Graph) : Type 0 where
  pub low : G.n ≤ most_written
  pub short : length G.sources ≤ most_written
  pub even : length G.sources ≡ length G.targets
  pub sources : Every (λ u. u < G.n) G.sources
  pub targets : Every (λ v. v < G.n) G.targets

-- a comment line: it begins with `%`, and no LF stands in it
pub record Comment (l : Raw) : Type 0 where
  pub marked : is_comment l ≡ true
  pub one : all_of (λ b. not (eqb b lf)) l ≡ true

-- the text of an edge list, with comment lines behind the header
unfoldable pub commented : List Raw → Graph → List ℕ
commented comments G = ended (header ∷ (comments ++ (row G.n (G.n ∷ length G.sources ∷ []) ∷ entry_rows G.sources G.targets)))

-- a text of the subset that has this edge list
pub record Holds (text : List ℕ) (G : Graph) : Type 0 where
  pub comments : List Raw
  pub remarks : Every Comment comments
  pub fits : Writable G
  pub whole : text ≡ commented comments G

-- lines that may stand first in a text: none; the header and comments; these, a size line, and at most as many entries as it says
pub data Front : List Raw → Type 0 where
  none : Front []
  headed : (comments : List Raw) → Every (λ l. is_comment l ≡ true) comments → Front (header ∷ comments)
  sized : (comments : List Raw) (s : Raw) (entries : List Raw) → Every (λ l. is_comment l ≡ true) comments → is_size s ≡ true → length entries ≤ number 2 s
      → Every (λ l. is_entry (number 0 s) l ≡ true) entries → Front (header ∷ (comments ++ (s ∷ entries)))

-- the first bad line of a text: the lines in front of it may stand first in a text; with it they may not, or no LF ends it
pub record FirstBad (text : List ℕ) (line : ℕ) : Type 0 where
  pub good : ℕ
  pub next : line ≡ suc good
  pub inside : good < length (pieces lf text)
  pub before : Front (take good (pieces lf text))
  pub stops : suc good < length (pieces lf text) → Front (take (suc good) (pieces lf text)) → ⊥
