-- What a conversion answers and leaves, as the definitions have it.
use Rattle.std.specs.Prelude.{cond, ◌≡◌, List, ◌++◌, ℕ, length, drop, Result}
use Rattle.lineage.specs.Stored.{Form}
use Rattle.lineage.specs.Calls.{Outcome, outcome, any_applies}
use Rattle.refusals.specs.declared.Refusal.{Refusal}
use Rattle.refusals.specs.Refusals.{outcome_by}
use Rattle.convert.specs.Convert.{converted, fit_checks, convert_answer, convert_output, convert_marks, convert_work}

-- the length of what is written, or the number and values that the document gives the refusal
abbrev pub converted_of : Result ℕ Refusal → Outcome ℕ
converted_of r = outcome_by (λ total. total) r

-- behind 15: what may be answered, and what the output may hold afterwards
pub record Turned (G : Form) (b out : List ℕ) (r : Result ℕ Refusal) (out' : List ℕ) : Type 0 where
  pub answers : converted_of r ≡ outcome (fit_checks G b (length out)) (length (converted G b))
  pub writes : out' ≡ cond (any_applies (fit_checks G b (length out))) out (converted G b ++ drop (length (converted G b)) out)

-- of bytes, marks, words and an output: what may be answered, and what each may hold afterwards
pub record Allowed (from to : ℕ) (b marks work out : List ℕ) (r : Result ℕ Refusal) (marks' work' out' : List ℕ) : Type 0 where
  pub answers : converted_of r ≡ convert_answer from to b (length marks) (length work) (length out)
  pub leaves : marks' ≡ convert_marks from b marks (length work)
  pub clears : work' ≡ convert_work from b (length marks) work
  pub writes : out' ≡ convert_output from to b (length marks) (length work) out
