-- Converting a plain hierarchy between form 2 and form 4 (document 02, [14]), without the edge list. Of both calls the checks in order, the answer, and what the output
-- holds afterwards; marks and words are as after [7]'s conversion. Forms are told by their numbers.
use Rattle.std.specs.Prelude.{not, ◌&&◌, cond, List, [], ◌∷◌, ◌++◌, ℕ, eqb, ltb, length, drop}
use Rattle.lineage.specs.Stored.{Form, encode, counts_in, form_of, decode}
use Rattle.lineage.specs.Sound.{is_tree, contents_sound}
use Rattle.lineage.specs.Calls.{Check, check, Outcome, outcome, any_applies, tree_check, contents_check, index_in}
use Rattle.convert.specs.Convert.{converted, convert_early}

-- into a form of plain hierarchies 4 if d is not 1, and 22 if a group is a child of two others; then 9 if the output is shorter than the bytes
abbrev pub plain_checks : Form → List ℕ → ℕ → List Check
plain_checks G b out =
    let needed : ℕ = length (converted G b) in
    check (G.tree && not (eqb (counts_in b).d 1)) 4 0 ∷ tree_check G (index_in b) ∷ check (ltb out needed) 9 needed ∷ []

-- those behind opening's
abbrev pub turn_late : ℕ → List ℕ → ℕ → List Check
turn_late to b out = contents_check b ∷ plain_checks (form_of to) b out

-- a finished conversion returns the length of what it wrote
unfoldable pub turn_answer : (from to : ℕ) → List ℕ → (marks work out : ℕ) → Outcome ℕ
unfolding contents_sound encode decode is_tree
turn_answer from to b marks work out = outcome (convert_early from b marks work ++ turn_late to b out) (length (converted (form_of to) b))

-- the output: unchanged by every refusal; past what is written it keeps its contents
unfoldable pub turn_output : (from to : ℕ) → List ℕ → (marks work : ℕ) → (out : List ℕ) → List ℕ
unfolding contents_sound encode decode is_tree
turn_output from to b marks work out =
    cond (any_applies (convert_early from b marks work ++ turn_late to b (length out)))
    out
    (converted (form_of to) b ++ drop (length (converted (form_of to) b)) out)
