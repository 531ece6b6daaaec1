-- Conversion (document 02, [7]): an index of one form turned into another, without the edge list. Of the call its checks in order, its answer, and what every lent
-- buffer holds afterwards. Forms are told by their numbers.
use Rattle.std.specs.Prelude.{Bool, ◌||◌, cond, List, [], ◌∷◌, ◌++◌, ℕ, ltb, length, drop}
use Rattle.lineage.specs.Stored.{Form, Counts, encode, counts_in, form_of, decode}
use Rattle.lineage.specs.Sound.{contents_sound}
use Rattle.lineage.specs.Calls.{Check, check, Outcome, outcome, any_applies, FormsTaken, forms_taken, form_checks, contents_check, index_in, marks_after, work_after}

-- the bytes of the same index at another form
abbrev pub converted : Form → List ℕ → List ℕ
converted G b = encode G (index_in b)

-- a call that takes one form alone
abbrev pub only : ℕ → FormsTaken
only form = forms_taken form form

-- n, k or c is beyond the form
abbrev pub beyond : Form → Counts → Bool
beyond G a = ltb G.vertices a.n || (ltb G.vertices a.k || ltb G.entries a.c)

-- 19 if n, k or c is beyond the other form; 9 if the output is shorter than its bytes
abbrev pub fit_checks : Form → List ℕ → ℕ → List Check
fit_checks G b out =
    let needed : ℕ = length (converted G b) in
    check (beyond G (counts_in b)) 19 0 ∷ check (ltb out needed) 9 needed ∷ []

-- those of opening, with 11 for a form other than the one to be turned; and behind 15 the two above
abbrev pub convert_early : ℕ → List ℕ → (marks work : ℕ) → List Check
convert_early from b marks work = form_checks (only from) b marks work

abbrev pub convert_late : ℕ → List ℕ → ℕ → List Check
convert_late to b out = contents_check b ∷ fit_checks (form_of to) b out

-- a finished conversion returns the length of what it wrote
unfoldable pub convert_answer : (from to : ℕ) → List ℕ → (marks work out : ℕ) → Outcome ℕ
unfolding contents_sound encode decode
convert_answer from to b marks work out =
    outcome (convert_early from b marks work ++ convert_late to b out) (length (converted (form_of to) b))

-- the output: unchanged by every refusal; past what is written it keeps its contents
unfoldable pub convert_output : (from to : ℕ) → List ℕ → (marks work : ℕ) → (out : List ℕ) → List ℕ
unfolding contents_sound encode decode
convert_output from to b marks work out =
    cond (any_applies (convert_early from b marks work ++ convert_late to b (length out)))
    out
    (converted (form_of to) b ++ drop (length (converted (form_of to) b)) out)

-- marks and words as after opening: from 15 on marks below n and the needed words are 0
unfoldable pub convert_marks : ℕ → List ℕ → (marks : List ℕ) → (work : ℕ) → List ℕ
convert_marks from b marks work = marks_after (convert_early from b (length marks) work) b marks

unfoldable pub convert_work : ℕ → List ℕ → (marks : ℕ) → (work : List ℕ) → List ℕ
convert_work from b marks work = work_after (convert_early from b marks (length work)) b work
