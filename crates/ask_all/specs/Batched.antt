-- What `ask_all` answers, as the definitions have it, and what marks and answers hold behind the checks that alter nothing.
use Rattle.std.specs.Prelude.{cond, List, ◌++◌, ◌≡◌, ℕ, length, drop, Result, Ok, Err}
use Rattle.lineage.specs.Lists.{cleared}
use Rattle.lineage.specs.Stored.{counts_in}
use Rattle.lineage.specs.Question.{answer}
use Rattle.lineage.specs.Calls.{Outcome, refused, answered, any_applies, index_in, Said}
use Rattle.refusals.specs.Refusals.{number_of, extra_of}
use Rattle.numbers.specs.Put.{put}
use Rattle.ask.specs.declared.Asked.{Asked}
use Rattle.ask.specs.Asked.{said_by}
use Rattle.ask_pairs.specs.Pairs.{sixes, last_marks}
use Rattle.ask_all.specs.Batch.{batch_late}
use Rattle.ask_all.specs.declared.BatchRefusal.{BatchRefusal}
use Rattle.ask_all.specs.declared.BatchRefusal.TheVariants.{Refused, AnswersShort}
use Rattle.ask_all.specs.declared.PairRefusal.{PairRefusal}

-- the number and the extra number of a refusal: 16 with the number of pairs where the answer list is short
abbrev pub batch_number : BatchRefusal → ℕ
batch_number (Refused r) = number_of r
batch_number (AnswersShort pairs) = 16

abbrev pub batch_extra : BatchRefusal → ℕ
batch_extra (Refused r) = extra_of r
batch_extra (AnswersShort pairs) = pairs

-- the number and values that the document gives each case
abbrev pub batched_of : Result ℕ BatchRefusal → Outcome ℕ
batched_of (Ok count) = answered count
batched_of (Err r) = refused (batch_number r) (batch_extra r)

-- 16 is told of the answer list alone
abbrev pub Own : Result ℕ BatchRefusal → Type 0
Own (Ok count) = Unit
Own (Err (AnswersShort pairs)) = Unit
Own (Err (Refused r)) = number_of r ≡ 16 → ⊥

-- what a pair's six numbers, read back, say
abbrev pub read_of : Result Asked PairRefusal → Outcome Said
read_of (Ok a) = answered (said_by a)
read_of (Err r) = refused r.number r.extra

-- behind 6: the marks of the last pair that was not refused, and 0 below n where the call is refused
abbrev pub marks_laid : List ℕ → (sources targets : List ℕ) → (marks : List ℕ) → (answers : ℕ) → List ℕ
marks_laid b sources targets marks answers =
    cond (any_applies (batch_late b sources targets answers))
    (cleared (counts_in b).n marks)
    (last_marks (counts_in b).n (answer (index_in b)) sources targets (length sources) ++ drop (counts_in b).n marks)

-- and six numbers a pair
abbrev pub answers_laid : List ℕ → (sources targets answers : List ℕ) → List ℕ
answers_laid b sources targets answers =
    cond (any_applies (batch_late b sources targets (length answers)))
    answers
    (put answers 0 (sixes (counts_in b).n (answer (index_in b)) sources targets (length sources)))
