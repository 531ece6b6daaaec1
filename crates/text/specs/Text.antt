-- What a text says, or its first bad line (document 01, "Text program").
use Rattle.std.specs.Prelude.{Bool, true, false, ◌&&◌, List, [], ◌∷◌, ◌++◌, ℕ, zero, suc, ◌+◌, eqb, leb, length, get_or}
use Rattle.lineage.specs.Lists.{joined}
use Rattle.lineage.specs.Stored.{most_labellings}
use Rattle.text_lines.specs.Lines.{bytes, Line, lines_of, most_digits, line_is, numbers_in}

-- at most 32,768 bytes
abbrev pub most_bytes : ℕ
most_bytes = 32768

-- n at most 512
abbrev pub most_vertices : ℕ
most_vertices = 512

-- edges at most 2,000
abbrev pub most_edges : ℕ
most_edges = 2000

-- lines of one kind, one after the other: how many, their numbers, and the lines behind them
pub record Block : Type 0 where
  pub count : ℕ
  pub numbers : List ℕ
  pub rest : List Line

-- no line more
abbrev pub stop : List Line → Block
stop lines = record { count = 0; numbers = []; rest = lines }

-- the line, then those of the block
abbrev pub with_line : Line → Block → Block
with_line l B = record { count = suc B.count; numbers = numbers_in l ++ B.numbers; rest = B.rest }

-- a line of the kind and what follows it, or no line more
abbrev pub go_on : Bool → Line → List Line → (List Line → Block) → Block
go_on true l lines block = with_line l (block lines)
go_on false l lines block = stop (l ∷ lines)

-- the lines of this letter and `size` numbers that stand first, at most `most`
unfoldable pub block : List ℕ → ℕ → ℕ → List Line → Block
unfolding line_is
block first size zero lines = stop lines
block first size (suc most) [] = stop []
block first size (suc most) (l ∷ []) = stop (l ∷ [])
block first size (suc most) (l ∷ (l' ∷ more)) = go_on (line_is most_digits first size l) l (l' ∷ more) (λ lines. block first size most lines)

-- n; the edges; the orders, of which there are d, one after the other; of each question its source and its target
pub record Text : Type 0 where
  pub n : ℕ
  pub sources : List ℕ
  pub targets : List ℕ
  pub d : ℕ
  pub orders : List ℕ
  pub asked : List ℕ

-- what a good text says, or the first bad line from 1
pub data Reading : Type 0 where
  says : Text → Reading
  bad_line : ℕ → Reading

-- of each pair of numbers the first (k = 0) or the second (k = 1)
abbrev pub of_pairs : ℕ → List ℕ → List ℕ
of_pairs k [] = []
of_pairs k (x ∷ []) = []
of_pairs k (x ∷ (y ∷ more)) = get_or (x ∷ y ∷ []) k 0 ∷ of_pairs k more

-- nothing stands behind the last LF: the one piece that is left is one word without a byte
abbrev pub is_end : List Line → Bool
is_end lines = eqb (length lines) 1 && (eqb (length (joined lines)) 1 && eqb (length (joined (joined lines))) 0)

-- the number of the `v` line
abbrev pub vertices : Block → ℕ
vertices v = get_or v.numbers 0 0

-- there is a `v` line, and its n is within the bound
abbrev pub is_first : Block → Bool
is_first v = eqb v.count 1 && leb (vertices v) most_vertices

-- what the `v`, `e`, `o` and `q` lines say
abbrev pub text_of : (v e o q : Block) → Text
text_of v e o q = record {
  n = vertices v;
  sources = of_pairs 0 e.numbers;
  targets = of_pairs 1 e.numbers;
  d = o.count;
  orders = o.numbers;
  asked = q.numbers;
}

-- by whether the first line is good and whether nothing is left behind the good lines; otherwise the line behind them is bad
abbrev pub judged : Bool → Bool → Text → ℕ → Reading
judged false end t good = bad_line 1
judged true false t good = bad_line (suc good)
judged true true t good = says t

-- what the four kinds of lines come to
abbrev pub saying : (v e o q : Block) → Reading
saying v e o q = judged (is_first v) (is_end q.rest) (text_of v e o q) (v.count + e.count + o.count + q.count)

-- `v n` once, then `e from to`, then at most five `o` lines of exactly n numbers, then any number of `q source target`, and no line more
unfoldable pub reading : List ℕ → Reading
unfolding lines_of block
reading text =
    let v : Block = block (bytes "v") 1 1 (lines_of text) in
    let e : Block = block (bytes "e") 2 most_edges v.rest in
    let o : Block = block (bytes "o") (vertices v) most_labellings e.rest in
    let q : Block = block (bytes "q") 2 (length o.rest) o.rest in
    saying v e o q
