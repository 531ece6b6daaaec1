-- The lines of a text (document 01, "Text program"): bytes cut at LF into lines, a line cut at single spaces into words, a word read as a decimal.
use Rattle.std.specs.Prelude.{Bool, true, false, not, ◌&&◌, ◌||◌, List, [], ◌∷◌, ◌++◌, map, ℕ, zero, suc, ◌+◌, ◌-◌, ◌*◌, ◌/◌, ◌%◌, eqb, leb, ltb, length, get_or}
use Prim.Native.Char.{code}
use Prim.Native.String.{String, [] as []ˢ, ◌∷◌ as ◌∷ˢ◌}
use Rattle.lineage.specs.Lists.{all_of, same_list}

-- the bytes of a quoted text
abbrev pub bytes : String → List ℕ
bytes []ˢ = []
bytes (c ∷ˢ s) = code c ∷ bytes s

-- LF
abbrev pub lf : ℕ
lf = code "\n"

-- the single space between two words
abbrev pub space : ℕ
space = code " "

-- a digit, 0 to 9
abbrev pub is_digit : ℕ → Bool
is_digit b = leb (code "0") b && leb b (code "9")

-- what a digit counts
abbrev pub digit_of : ℕ → ℕ
digit_of b = b - code "0"

-- a separator ends the piece, any other byte stands in it
abbrev pub keep : Bool → ℕ → List ℕ → List ℕ
keep true b piece = []
keep false b piece = b ∷ piece

-- the bytes before the first separator
unfoldable pub first_piece : ℕ → List ℕ → List ℕ
first_piece separator [] = []
first_piece separator (b ∷ more) = keep (eqb b separator) b (first_piece separator more)

-- a separator begins another piece
abbrev pub begin : Bool → List ℕ → List (List ℕ) → List (List ℕ)
begin true piece others = piece ∷ others
begin false piece others = others

-- the pieces behind the first separator
unfoldable pub other_pieces : ℕ → List ℕ → List (List ℕ)
unfolding first_piece
other_pieces separator [] = []
other_pieces separator (b ∷ more) = begin (eqb b separator) (first_piece separator more) (other_pieces separator more)

-- the pieces before, between and behind the separators: one more than there are separators
abbrev pub pieces : ℕ → List ℕ → List (List ℕ)
pieces separator s = first_piece separator s ∷ other_pieces separator s

-- a line is its words, with single spaces between them
abbrev pub Line : Type 0
Line = List (List ℕ)

-- lines end in one LF. The last piece is what stands behind the last LF: no line, since no LF ends it
unfoldable pub lines_of : List ℕ → List Line
unfolding first_piece other_pieces
lines_of text = map (pieces space) (pieces lf text)

-- a decimal of 1 to `most` digits without needless zeros
unfoldable pub is_decimal : ℕ → List ℕ → Bool
is_decimal most word =
    all_of is_digit word
    && ((leb 1 (length word) && leb (length word) most) && (eqb (length word) 1 || not (eqb (get_or word 0 0) (code "0"))))

-- the number that digits make behind those that make a
abbrev pub value_from : ℕ → List ℕ → ℕ
value_from a [] = a
value_from a (b ∷ more) = value_from (10 * a + digit_of b) more

-- the number that a decimal makes
abbrev pub value : List ℕ → ℕ
value word = value_from 0 word

-- a number below 10 is one digit; any other is the digits of its tenth part, then the last digit
abbrev pub digits : Bool → ℕ → (ℕ → List ℕ) → List ℕ
digits true x tenth = (code "0" + x) ∷ []
digits false x tenth = tenth (x / 10) ++ ((code "0" + x % 10) ∷ [])

-- the decimal of a number, without needless zeros; f bounds its digits
unfoldable pub decimal_by : ℕ → ℕ → List ℕ
decimal_by zero x = []
decimal_by (suc f) x = digits (ltb x 10) x (λ y. decimal_by f y)

-- the decimal of a number: one of 32 bits has at most 10 digits
abbrev pub decimal : ℕ → List ℕ
decimal x = decimal_by 10 x

-- the most digits of a number in the text program
abbrev pub most_digits : ℕ
most_digits = 5

-- the line is this word and exactly `size` numbers of at most `most` digits
unfoldable pub line_is : ℕ → List ℕ → ℕ → Line → Bool
unfolding is_decimal
line_is most first size [] = false
line_is most first size (word ∷ words) = same_list word first && (eqb (length words) size && all_of (is_decimal most) words)

-- the numbers of a line
abbrev pub numbers_in : Line → List ℕ
numbers_in [] = []
numbers_in (word ∷ words) = map value words
