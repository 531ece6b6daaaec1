-- The lines of a text, one behind the other: the header and the size line stand in front, then comes the line of each edge. How long each line is follows from its
-- decimals, and no decimal is longer than ten digits.
use mathlib.Core.List.{List, [], ◌∷◌, ◌++◌, append_assoc}
use mathlib.Core.Path.{◌≡◌, sym, ap, ◌∙◌}
use Prim.Native.Nat.{ℕ, suc, ◌+◌, ◌≤◌, ◌<◌}
use native.Mathlib.Numerals.{add-one}
use native.Mathlib.Omega.{arith}
use lib.ListN.{length, get_or, drop, length-append}
use lib.Seq.{drop-cons}
use Rattle.lineage.specs.Graph.{Graph}
use Rattle.text_lines.specs.Lines.{bytes, lf, space, decimal}
use Rattle.text_printing.proofs.Putting.{number_short}
use Rattle.matrix_lines.specs.Matrix.{Raw, header, row, ended, entry_rows, matrix_text}

-- a line, and the lines behind it
pub ended_more : (l : Raw) (lines : List Raw) → ended (l ∷ lines) ≡ ended (l ∷ []) ++ ended lines
ended_more l lines = sym (append_assoc l (lf ∷ []) (ended lines))

-- a line of two numbers
abbrev pub pair_line : ℕ → ℕ → List ℕ
pair_line x y = ended (row x (y ∷ []) ∷ [])

-- its parts, as they are put
pub pair_parts : (x y : ℕ) → decimal x ++ (space ∷ (decimal y ++ (lf ∷ []))) ≡ pair_line x y
pair_parts x y = sym (append_assoc (decimal x) (space ∷ decimal y) (lf ∷ []))

pub pair_long : (x y : ℕ) → length (pair_line x y) ≡ length (decimal x) + length (decimal y) + 2
pair_long x y = omega (arith, length-append (decimal x ++ (space ∷ decimal y)) (lf ∷ []), length-append (decimal x) (space ∷ decimal y))

pub pair_short : (x y : ℕ) → length (pair_line x y) ≤ 22
pair_short x y = omega (arith, pair_long x y, number_short x, number_short y)

-- the header and the size line
abbrev pub front_lines : ℕ → ℕ → List ℕ
front_lines n m = ended (header ∷ row n (n ∷ m ∷ []) ∷ [])

abbrev header_line : List ℕ
header_line = bytes "%%MatrixMarket matrix coordinate pattern general\n"

pub front_parts : (n m : ℕ) → header_line ++ (decimal n ++ (space ∷ pair_line n m)) ≡ front_lines n m
front_parts n m = ap (λ (s : List ℕ). header_line ++ s) (sym (append_assoc (decimal n) (space ∷ row n (m ∷ [])) (lf ∷ [])))

pub front_long : (n m : ℕ) → length (front_lines n m) ≡ length (decimal n) + length (pair_line n m) + 50
front_long n m = sym (ap length (front_parts n m)) ∙ omega (arith, length-append (decimal n) (space ∷ pair_line n m))

pub front_short : (n m : ℕ) → length (front_lines n m) ≤ 82
front_short n m = omega (arith, front_long n m, number_short n, pair_short n m)

-- the whole text
pub text_parts : (G : Graph) → matrix_text G ≡ front_lines G.n (length G.sources) ++ ended (entry_rows G.sources G.targets)
unfolding matrix_text
text_parts G = ap (λ (s : List ℕ). header_line ++ s) (ended_more (row G.n (G.n ∷ length G.sources ∷ [])) (entry_rows G.sources G.targets))

-- the lines of the edges from number i on
abbrev pub entries_from : List ℕ → List ℕ → ℕ → List ℕ
entries_from S T i = ended (entry_rows (drop i S) (drop i T))

-- the line of edge i
abbrev pub entry_line : List ℕ → List ℕ → ℕ → List ℕ
entry_line S T i = pair_line (suc (get_or S i 0)) (suc (get_or T i 0))

pub entries_next : (S T : List ℕ) (i : ℕ) → length S ≡ length T → i < length S → entries_from S T i ≡ entry_line S T i ++ entries_from S T (i + 1)
entries_next S T i paired low =
    rw (drop-cons S i 0 low, drop-cons T i 0 (omega arith), add-one i)
    (ended_more (row (suc (get_or S i 0)) (suc (get_or T i 0) ∷ [])) (entry_rows (drop (suc i) S) (drop (suc i) T)))
