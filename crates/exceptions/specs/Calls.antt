-- The calls on exception lists (document 02, [8]): of each its checks in order, its answer, and what every lent buffer holds afterwards. They take form 1 alone, beside
-- which no words are lent.
use Rattle.std.specs.Prelude.{Bool, not, cond, List, [], ◌∷◌, ◌++◌, ℕ, leb, ltb, length, drop}
use Rattle.lineage.specs.Lists.{joined, same_list}
use Rattle.lineage.specs.Index.{Index}
use Rattle.lineage.specs.Stored.{counts_in, decode}
use Rattle.lineage.specs.Sound.{contents_sound}
use Rattle.lineage.specs.Calls.{Check, check, Outcome, outcome, any_applies, host, form_checks, contents_check, index_in, marks_after}
use Rattle.laws_exceptions.specs.Exceptions.{exception_rows, encode_exceptions, says_by_exceptions}

-- 10 to 13, 11 for any form but 1
abbrev pub form_one_checks : List ℕ → ℕ → List Check
form_one_checks b marks = form_checks host b marks 0

-- and behind them 15: what every call here checks first
abbrev pub sound_checks : List ℕ → ℕ → List Check
sound_checks b marks = form_one_checks b marks ++ (contents_check b ∷ [])

-- building: those of opening the index, then 9
abbrev pub build_late : List ℕ → ℕ → List Check
build_late b out =
    let needed : ℕ = length (encode_exceptions (index_in b)) in
    contents_check b ∷ check (ltb out needed) 9 needed ∷ []

-- the length of the lists
unfoldable pub exceptions_built : List ℕ → (marks out : ℕ) → Outcome ℕ
unfolding contents_sound encode_exceptions decode
exceptions_built b marks out = outcome (form_one_checks b marks ++ build_late b out) (length (encode_exceptions (index_in b)))

-- the output: unchanged by every refusal; past the lists it keeps its contents
unfoldable pub exceptions_output : List ℕ → (marks : ℕ) → (out : List ℕ) → List ℕ
unfolding contents_sound encode_exceptions decode
exceptions_output b marks out =
    let lists : List ℕ = encode_exceptions (index_in b) in
    cond (any_applies (form_one_checks b marks ++ build_late b (length out))) out (lists ++ drop (length lists) out)

-- 20: lists that do not belong to the index
abbrev pub belong_check : List ℕ → List ℕ → Check
belong_check b lists = check (not (same_list lists (encode_exceptions (index_in b)))) 20 0

abbrev pub open_late : List ℕ → List ℕ → List Check
open_late b lists = contents_check b ∷ belong_check b lists ∷ []

-- all checks of opening
abbrev pub listed_checks : List ℕ → List ℕ → ℕ → List Check
listed_checks b lists marks = form_one_checks b marks ++ open_late b lists

-- opened lists: of how many groups, and how many entries
pub record ListCounts : Type 0 where
  pub groups : ℕ
  pub entries : ℕ

abbrev pub list_counts : Index → ListCounts
list_counts I = record { groups = length I.groups; entries = length (joined (exception_rows I)) }

unfoldable pub exceptions_opened : List ℕ → (lists : List ℕ) → (marks : ℕ) → Outcome ListCounts
unfolding contents_sound exception_rows encode_exceptions decode
exceptions_opened b lists marks = outcome (form_one_checks b marks ++ open_late b lists) (list_counts (index_in b))

-- a question: the same up to 15, then 20, then 14, source first
abbrev pub ask_late : List ℕ → (lists : List ℕ) → (source target : ℕ) → List Check
ask_late b lists source target =
    contents_check b ∷ belong_check b lists ∷ check (leb (counts_in b).n source) 14 0 ∷ check (leb (counts_in b).n target) 14 1 ∷ []

-- yes or no, without a reason
unfoldable pub exceptions_asked : List ℕ → (lists : List ℕ) → (source target marks : ℕ) → Outcome Bool
unfolding contents_sound encode_exceptions says_by_exceptions decode
exceptions_asked b lists source target marks = outcome (form_one_checks b marks ++ ask_late b lists source target) (says_by_exceptions (index_in b) source target)

-- the marks after each of them: unchanged by 10 to 13, and behind these 0 below n
unfoldable pub exception_marks : List ℕ → List ℕ → List ℕ
exception_marks b marks = marks_after (form_one_checks b (length marks)) b marks
