-- Many pairs at once by exception lists: the twin of document 02, [3], which goes beyond [8]. Of the call its checks in order, its answer, and what the answer list holds
-- afterwards. The marks are those of the other calls on exception lists.
use Rattle.std.specs.Prelude.{Bool, not, cond, List, [], ◌∷◌, ◌++◌, map, ℕ, ◌+◌, ◌*◌, eqb, ltb, length, get_or, drop}
use Rattle.lineage.specs.Lists.{upto, joined}
use Rattle.lineage.specs.Stored.{decode}
use Rattle.lineage.specs.Sound.{contents_sound}
use Rattle.lineage.specs.Calls.{Check, check, Outcome, refused, answered, outcome, any_applies, contents_check}
use Rattle.laws_exceptions.specs.Exceptions.{encode_exceptions}
use Rattle.exceptions.specs.Calls.{form_one_checks, belong_check, exceptions_asked}

-- the three numbers of a pair: refusal, extra, yes (1) or no (0)
abbrev pub three_of : Outcome Bool → List ℕ
three_of (refused number extra) = number ∷ extra ∷ 0 ∷ []
three_of (answered says) = 0 ∷ 0 ∷ cond says 1 0 ∷ []

-- how pair i is read back from a list of answers: no refusal has the number 0
abbrev pub pair_in : List ℕ → ℕ → Outcome Bool
pair_in answers i = cond (eqb (get_or answers (3 * i) 0) 0) (answered (eqb (get_or answers (3 * i + 2) 0) 1)) (refused (get_or answers (3 * i) 0) (get_or answers (3 * i + 1) 0))

-- pair i, asked by itself
abbrev pub asked_at : List ℕ → (lists sources targets : List ℕ) → (marks i : ℕ) → Outcome Bool
asked_at b lists sources targets marks i = exceptions_asked b lists (get_or sources i 0) (get_or targets i 0) marks

-- 15; 20 for lists that do not belong to the index; 2 for lists of different length; 16 if the answer list is short
abbrev pub all_late : List ℕ → (lists sources targets : List ℕ) → ℕ → List Check
all_late b lists sources targets answers =
    contents_check b
    ∷ belong_check b lists
    ∷ check (not (eqb (length sources) (length targets))) 2 0
    ∷ check (ltb answers (3 * length sources)) 16 (length sources)
    ∷ []

-- the number of pairs
unfoldable pub all_exceptions : List ℕ → (lists sources targets : List ℕ) → (marks answers : ℕ) → Outcome ℕ
unfolding contents_sound encode_exceptions decode
all_exceptions b lists sources targets marks answers = outcome (form_one_checks b marks ++ all_late b lists sources targets answers) (length sources)

-- the answer list: unchanged by every refusal; the answers of asking one by one in list order, and behind them it is untouched
unfoldable pub exceptions_answers : List ℕ → (lists sources targets : List ℕ) → (marks : ℕ) → (answers : List ℕ) → List ℕ
unfolding contents_sound encode_exceptions decode exceptions_asked
exceptions_answers b lists sources targets marks answers =
    cond (any_applies (form_one_checks b marks ++ all_late b lists sources targets (length answers)))
    answers
    (joined (map (λ i. three_of (asked_at b lists sources targets marks i)) (upto (length sources))) ++ drop (3 * length sources) answers)
