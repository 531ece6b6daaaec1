-- Many pairs at once (document 02, [3] and [6]): lists of sources and targets, the stored bytes checked once. Of the call its checks in order, its answer, and what every
-- lent buffer holds afterwards.
use Rattle.std.specs.Prelude.{not, cond, List, [], ◌∷◌, ◌++◌, map, ℕ, ◌+◌, ◌*◌, eqb, ltb, length, get_or, drop}
use Rattle.lineage.specs.Lists.{upto, joined}
use Rattle.lineage.specs.Stored.{counts_in, decode}
use Rattle.lineage.specs.Sound.{contents_sound}
use Rattle.lineage.specs.Question.{answer}
use Rattle.lineage.specs.Calls.{Check, check, Outcome, refused, answered, outcome, any_applies, FormsTaken, form_checks, contents_check, index_in, marks_after, work_after, Said, ask_answer}
use Rattle.ask_pairs.specs.Pairs.{last_marks}

-- the six numbers of a pair: refusal, extra, yes (1) or no (0), reason, opened, labelling; with a refusal the last four are 0, without one the first two
abbrev pub six_of : Outcome Said → List ℕ
six_of (refused number extra) = number ∷ extra ∷ 0 ∷ 0 ∷ 0 ∷ 0 ∷ []
six_of (answered s) = 0 ∷ 0 ∷ cond s.says 1 0 ∷ s.reason ∷ s.opened ∷ s.deciding ∷ []

-- how pair i is read back from a list of answers: no refusal has the number 0
abbrev pub pair_in : List ℕ → ℕ → Outcome Said
pair_in answers i =
    cond (eqb (get_or answers (6 * i) 0) 0)
    (answered (record {
      says = eqb (get_or answers (6 * i + 2) 0) 1;
      reason = get_or answers (6 * i + 3) 0;
      opened = get_or answers (6 * i + 4) 0;
      deciding = get_or answers (6 * i + 5) 0;
    }))
    (refused (get_or answers (6 * i) 0) (get_or answers (6 * i + 1) 0))

-- pair i, asked by itself
abbrev pub asked_at : FormsTaken → List ℕ → (sources targets : List ℕ) → (marks work i : ℕ) → Outcome Said
asked_at T b sources targets marks work i = ask_answer T b (get_or sources i 0) (get_or targets i 0) marks work

-- 15; 2 for lists of different length; 16 if the answer list is short
abbrev pub batch_late : List ℕ → (sources targets : List ℕ) → ℕ → List Check
batch_late b sources targets answers =
    contents_check b
    ∷ check (not (eqb (length sources) (length targets))) 2 0
    ∷ check (ltb answers (6 * length sources)) 16 (length sources)
    ∷ []

-- the number of pairs
unfoldable pub batch_answer : FormsTaken → List ℕ → (sources targets : List ℕ) → (marks work answers : ℕ) → Outcome ℕ
unfolding contents_sound
batch_answer T b sources targets marks work answers = outcome (form_checks T b marks work ++ batch_late b sources targets answers) (length sources)

-- the answer list: unchanged by every refusal; the answers of asking one by one in list order, and behind them it is untouched
unfoldable pub batch_answers : FormsTaken → List ℕ → (sources targets : List ℕ) → (marks work : ℕ) → (answers : List ℕ) → List ℕ
unfolding contents_sound ask_answer
batch_answers T b sources targets marks work answers =
    cond (any_applies (form_checks T b marks work ++ batch_late b sources targets (length answers)))
    answers
    (joined (map (λ i. six_of (asked_at T b sources targets marks work i)) (upto (length sources))) ++ drop (6 * length sources) answers)

-- the marks: those of the last pair that was not refused, or 0 below n if there was none
unfoldable pub batch_marks : FormsTaken → List ℕ → (sources targets : List ℕ) → (marks : List ℕ) → (work answers : ℕ) → List ℕ
unfolding contents_sound last_marks answer decode
batch_marks T b sources targets marks work answers =
    cond (any_applies (form_checks T b (length marks) work ++ batch_late b sources targets answers))
    (marks_after (form_checks T b (length marks) work) b marks)
    (last_marks (counts_in b).n (answer (index_in b)) sources targets (length sources) ++ drop (counts_in b).n marks)

-- the words: unchanged by 10 to 13 and 6; behind them those needed are 0
unfoldable pub batch_work : FormsTaken → List ℕ → (marks : ℕ) → (work : List ℕ) → List ℕ
batch_work T b marks work = work_after (form_checks T b marks (length work)) b work
