-- The defined output of the defined program on a text, as bytes (document 01, "Text program").
use Rattle.std.specs.Prelude.{Bool, true, false, cond, List, [], ◌∷◌, ◌++◌, ℕ, ◌+◌, ◌*◌, ltb, length}
use Rattle.lineage.specs.Stored.{form1, most_labellings, encode}
use Rattle.lineage.specs.Calls.{Input, Outcome, refused, answered, Said, host, built, build_answer, ask_answer}
use Rattle.text_lines.specs.Lines.{bytes, decimal_by, decimal}
use Rattle.text.specs.Text.{Text, Reading, says, bad_line, reading, most_bytes, most_vertices, most_edges}

-- two numbers
abbrev pub two_numbers : ℕ → ℕ → List ℕ
two_numbers x y = decimal x ++ (bytes " " ++ decimal y)

-- three numbers
abbrev pub three_numbers : ℕ → ℕ → ℕ → List ℕ
three_numbers x y z = decimal x ++ (bytes " " ++ two_numbers y z)

-- `refused`, number, extra
abbrev pub refusal : ℕ → ℕ → List ℕ
refusal number extra = bytes "refused " ++ two_numbers number extra

-- yes or no, reason, groups opened, the labelling that decided
abbrev pub said : Said → List ℕ
said a = cond a.says (bytes "yes ") (bytes "no ") ++ three_numbers a.reason a.opened a.deciding

-- an answer, or a refusal
abbrev pub told : Outcome Said → List ℕ
told (refused number extra) = refusal number extra
told (answered a) = said a

-- `q`, source, target
abbrev pub question : ℕ → ℕ → List ℕ
question u v = bytes "q " ++ (two_numbers u v ++ bytes " ")

-- then what the question was told
abbrev pub question_line : ℕ → ℕ → Outcome Said → List ℕ
question_line u v o = question u v ++ (told o ++ bytes "\n")

-- a question asked of the stored bytes: the program stays with form 1, and lends no words
abbrev pub answer_to : List ℕ → (source target : ℕ) → Outcome Said
answer_to index u v = ask_answer host index u v most_vertices 0

-- one line per question
unfoldable pub answers_to : List ℕ → List ℕ → List ℕ
unfolding ask_answer
answers_to index [] = []
answers_to index (u ∷ []) = []
answers_to index (u ∷ (v ∷ more)) = question_line u v (answer_to index u v) ++ answers_to index more

-- the work memory that the program lends a build: 16n + 4 x edges + 64 words at its bounds
abbrev pub work_lent : ℕ
work_lent = 16 * most_vertices + 4 * most_edges + 64

-- the output that it lends: 50 + 2n + 6k + 2c + 8dk bytes at its bounds
abbrev pub index_lent : ℕ
index_lent = 50 + 2 * most_vertices + 6 * most_vertices + 2 * most_edges + 8 * most_labellings * most_vertices

-- what a build is lent
abbrev pub input_of : Text → Input
input_of t = record { graph = record { n = t.n; sources = t.sources; targets = t.targets }; d = t.d; orders = t.orders }

-- a refused build prints only its refusal; otherwise one line per question
abbrev pub after_build : Text → Outcome ℕ → List ℕ
after_build t (refused number extra) = refusal number extra ++ bytes "\n"
after_build t (answered total) = answers_to (encode form1 (built (input_of t))) t.asked

-- a bad text prints only `refused 17 L`
abbrev pub after_reading : Reading → List ℕ
after_reading (bad_line l) = refusal 17 l ++ bytes "\n"
after_reading (says t) = after_build t (build_answer form1 (input_of t) work_lent index_lent)

-- too many bytes is 0, looked at before any line
abbrev pub after_counting : Bool → Reading → List ℕ
after_counting true r = refusal 17 0 ++ bytes "\n"
after_counting false r = after_reading r

-- all that the program prints on a text
unfoldable pub output : List ℕ → List ℕ
unfolding reading build_answer encode answers_to decimal_by
output text = after_counting (ltb most_bytes (length text)) (reading text)
