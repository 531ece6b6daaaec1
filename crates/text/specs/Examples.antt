-- The sample of document 01, texts whose build is refused, and texts that are bad, in one way each: one table, a single claim, by computation.
use Rattle.std.specs.Prelude.{◌≡◌, refl, List, [], ◌∷◌, ℕ, replicate}
use Prim.Native.String.{String}
use Rattle.lineage.specs.Lists.{Every}
use Rattle.text_lines.specs.Lines.{bytes, lf}
use Rattle.text.specs.Output.{output}

-- a text, or so many LF, and all that the program prints on it
data Example : Type 0 where
  prints : (input printed : String) → Example
  blank_prints : (size : ℕ) → (printed : String) → Example

abbrev Right : Example → Type 0
Right (prints input printed) = output (bytes input) ≡ bytes printed
Right (blank_prints size printed) = output (replicate size lf) ≡ bytes printed

abbrev table : List Example
table =
    -- the sample
    prints "v 4\ne 0 1\ne 0 2\ne 3 1\no 0 1 2 3\nq 3 2\nq 0 2\nq 1 1\nq 2 0\nq 4 0\n" "q 3 2 no 6 1 0\nq 0 2 yes 2 0 1\nq 1 1 yes 1 0 0\nq 2 0 no 3 0 0\nq 4 0 refused 14 0\n"
    -- no question; no vertex; a question far beyond n
    ∷ prints "v 2\no 0 1\n" ""
    ∷ prints "v 0\no\nq 0 0\n" "q 0 0 refused 14 0\n"
    ∷ prints "v 2\no 1 0\nq 0 99999\n" "q 0 99999 refused 14 1\n"
    -- a good text whose build is refused: no order, an edge end of n, an order with a repeat
    ∷ prints "v 2\ne 0 2\n" "refused 4 0\n"
    ∷ prints "v 0\ne 0 0\no\nq 0 0\n" "refused 7 0\n"
    ∷ prints "v 2\no 0 1\no 0 0\n" "refused 8 1\n"
    -- the first line: empty input, a capital letter, CR, a needless zero, n over 512, no LF
    ∷ prints "" "refused 17 1\n"
    ∷ prints "V 2\n" "refused 17 1\n"
    ∷ prints "v 2\r\n" "refused 17 1\n"
    ∷ prints "v 02\n" "refused 17 1\n"
    ∷ prints "v 513\n" "refused 17 1\n"
    ∷ prints "v 2" "refused 17 1\n"
    -- a later line: blank, two spaces, a trailing space, six digits, too few numbers, the letter and a space at n = 0, no LF
    ∷ prints "v 2\n\n" "refused 17 2\n"
    ∷ prints "v 2\ne 0  1\n" "refused 17 2\n"
    ∷ prints "v 2\ne 0 1 \n" "refused 17 2\n"
    ∷ prints "v 2\ne 0 100000\n" "refused 17 2\n"
    ∷ prints "v 2\ne 0 1\no 0\n" "refused 17 3\n"
    ∷ prints "v 0\no \n" "refused 17 2\n"
    ∷ prints "v 2\no 0 1\nq 0 1" "refused 17 3\n"
    -- out of turn: a second v, an e behind an o, an o behind a q; a sixth o
    ∷ prints "v 2\nv 2\n" "refused 17 2\n"
    ∷ prints "v 2\no 0 1\ne 0 1\n" "refused 17 3\n"
    ∷ prints "v 2\no 0 1\nq 0 1\no 0 1\n" "refused 17 4\n"
    ∷ prints "v 1\no 0\no 0\no 0\no 0\no 0\no 0\n" "refused 17 7\n"
    -- 32,768 and 32,769 bytes
    ∷ blank_prints 32768 "refused 17 1\n"
    ∷ blank_prints 32769 "refused 17 0\n"
    ∷ []

claim : Every Right table
unfolding output
claim = (refl, (refl, (refl, (refl, (refl, (refl, (refl, (refl, (refl, (refl, (refl, (refl, (refl, (refl, (refl, (refl, (refl, (refl, (refl, (refl, (refl, (refl, (refl, (refl, (refl, (refl, tt))))))))))))))))))))))))))
