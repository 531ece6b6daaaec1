-- What the line reader's functions find in the bytes from a position on.
use Rattle.std.specs.Prelude.{Bool, true, false, ◌&&◌, ◌||◌, List, [], ◌∷◌, ◌++◌, ◌≡◌, Option, Some, None, ℕ, suc, ◌+◌, eqb, leb, length, take}
use Prim.Native.Char.{code}
use Rattle.lineage.specs.Lists.{all_of}
use Rattle.text_lines.specs.declared.Byte.{Byte}
use Rattle.text_lines.specs.declared.Byte.TheVariants.{Letter, Digit, Space, Lf, Other, End}
use Rattle.text_lines.specs.declared.Number.{Number}
use Rattle.text_lines.specs.Lines.{space, lf, is_digit, digit_of, keep, first_piece, other_pieces, pieces, is_decimal, value_from, value, Line, line_is, numbers_in}

-- a letter that begins a line
abbrev pub is_letter : ℕ → Bool
is_letter b = (eqb b (code "v") || eqb b (code "e")) || (eqb b (code "o") || eqb b (code "q"))

-- by the tests for a letter, a digit, a space and LF
abbrev pub kind_by : Bool → Bool → Bool → Bool → ℕ → Byte
kind_by true d s l b = Letter b
kind_by false true s l b = Digit (digit_of b)
kind_by false false true l b = Space
kind_by false false false true b = Lf
kind_by false false false false b = Other

-- what a byte is: letters, digits, space, LF
abbrev pub kind : ℕ → Byte
kind b = kind_by (is_letter b) (is_digit b) (eqb b space) (eqb b lf) b

-- the byte that stands first
unfoldable pub byte_in : List ℕ → Byte
byte_in [] = End
byte_in (b ∷ more) = kind b

-- a space or LF ends a word
abbrev pub is_break : ℕ → Bool
is_break b = eqb b space || eqb b lf

-- the word that stands first
unfoldable pub word : List ℕ → List ℕ
word [] = []
word (b ∷ more) = keep (is_break b) b (word more)

-- a space or LF ends that word
unfoldable pub is_ended : List ℕ → Bool
is_ended [] = false
is_ended (b ∷ more) = is_break b || is_ended more

-- a number, or none
abbrev pub number_by : Bool → ℕ → ℕ → Option Number
number_by true value next = Some (record { value = value; next = next })
number_by false value next = None

-- at most `left` digits behind those that make v, and where they end
unfoldable pub digits_in : ℕ → ℕ → ℕ → List ℕ → Option Number
unfolding word is_ended
digits_in left v at s =
    number_by (is_ended s && (all_of is_digit (word s) && leb (length (word s)) left)) (value_from v (word s)) (at + length (word s))

-- a decimal of at most `most` digits, and where it ends
unfoldable pub number_in : ℕ → ℕ → List ℕ → Option Number
unfolding word is_ended is_decimal
number_in most at s = number_by (is_ended s && is_decimal most (word s)) (value (word s)) (at + length (word s))

-- the numbers of a line and the position behind its LF; or no such line
pub data Found : Type 0 where
  found : List ℕ → ℕ → Found
  none : Found

-- behind numbers that were found before, from a position on
abbrev pub after : List ℕ → ℕ → Found → Found
after numbers at (found more size) = found (numbers ++ more) (at + size)
after numbers at none = none

-- the numbers of this line, or no such line
abbrev pub found_if : Bool → Line → ℕ → Found
found_if true l size = found (numbers_in l) size
found_if false l size = none

-- a separator stood there
abbrev pub is_more : List (List ℕ) → Bool
is_more [] = false
is_more (piece ∷ others) = true

-- the words before the first LF
abbrev pub words_in : List ℕ → Line
words_in s = pieces space (first_piece lf s)

-- the line that stands first, where an LF ends it and it is this word and `size` numbers of at most `most` digits; its bytes count from here
unfoldable pub line_in : ℕ → List ℕ → ℕ → List ℕ → Found
unfolding first_piece other_pieces line_is
line_in most first size s = found_if (is_more (other_pieces lf s) && line_is most first size (words_in s)) (words_in s) (suc (length (first_piece lf s)))

-- what a call that reads a line gives, with the numbers that it left in the list
abbrev pub found_by : Option ℕ → List ℕ → Found
found_by (Some next) numbers = found numbers next
found_by None numbers = none

-- a line read into a list from `base` on: what stands in front is kept, and the line's numbers follow it
pub record Into (r : Option ℕ) (line : Found) (at base size : ℕ) (entry exit : List ℕ) : Type 0 where
  pub kept : take base exit ≡ take base entry
  pub read : found_by r (take (base + size) exit) ≡ after (take base entry) at line
