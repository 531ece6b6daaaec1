-- The longest output: a text of 32,768 bytes asks at most 5,461 questions, and the line of each is at most 61 bytes long, as any number has at most ten digits;
-- 62 are reckoned, 31 for each number of the pairs that are asked.
use mathlib.Core.Bool.{Bool, true, false}
use mathlib.Core.List.{List, [], ◌∷◌, ◌++◌}
use mathlib.Core.Path.{◌≡◌, refl}
use Prim.Native.Nat.{ℕ, ◌*◌, ◌≤◌}
use native.Mathlib.Omega.{arith}
use lib.Dec.{ltb}
use lib.ListN.{length, length-append}
use borrow.Author.Tests.{ltb-false}
use Rattle.lineage.specs.Stored.{form1, encode}
use Rattle.lineage.specs.Calls.{Outcome, refused, answered, Said, built, build_answer}
use Rattle.text_lines.specs.Lines.{bytes}
use Rattle.text.specs.Text.{most_bytes, Text, Reading, says, bad_line, reading}
use Rattle.text.specs.Blocks.{most_questions}
use Rattle.text.specs.Output.{two_numbers, refusal, question_line, answer_to, answers_to, work_lent, index_lent, input_of, after_build, after_counting, output}
use Rattle.text_printing.specs.Printer.{most_output}
use Rattle.text_printing.proofs.Putting.{two_short, line_short}
use Rattle.text.proofs.Bounded.{says_bounded}

-- a line for each pair of numbers
answers_short : (index asked : List ℕ) → length (answers_to index asked) ≤ 31 * length asked
unfolding answers_to
answers_short index [] = omega arith
answers_short index (u ∷ []) = omega arith
answers_short index (u ∷ (v ∷ more)) =
    let o : Outcome Said = answer_to index u v in
    omega (arith, length-append (question_line u v o) (answers_to index more), line_short u v o, answers_short index more)

refused_short : (number extra : ℕ) → length (refusal number extra ++ bytes "\n") ≤ most_output
refused_short number extra = omega (arith, length-append (two_numbers number extra) (bytes "\n"), two_short number extra)

built_short : (t : Text) (o : Outcome ℕ) → length t.asked ≤ 2 * most_questions → length (after_build t o) ≤ most_output
built_short t (refused number extra) h = refused_short number extra
built_short t (answered total) h = omega (arith, answers_short (encode form1 (built (input_of t))) t.asked)

-- no output is longer
pub output_short : (text : List ℕ) → length (output text) ≤ most_output
unfolding output
output_short text = go (ltb most_bytes (length text)) (reading text) refl refl
  where
    go : (t : Bool) (r : Reading) → ltb most_bytes (length text) ≡ t → reading text ≡ r → length (after_counting t r) ≤ most_output
    go true r c e = refused_short 17 0
    go false (bad_line l) c e = refused_short 17 l
    go false (says t) c e = built_short t (build_answer form1 (input_of t) work_lent index_lent) ((says_bounded text t e).asked (ltb-false most_bytes (length text) c))
