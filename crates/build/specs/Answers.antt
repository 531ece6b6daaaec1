-- What the functions return, as outcomes, and what they leave.
use Rattle.std.specs.Prelude.{cond, ◌≡◌, Result, List, ◌++◌, ℕ, length, drop}
use Rattle.lineage.specs.Stored.{Form, encode}
use Rattle.lineage.specs.Calls.{Outcome, outcome, any_applies, Input, work_needed, built, length_of, build_late}
use Rattle.numbers.specs.Regions.{Kept}
use Rattle.refusals.specs.declared.Refusal.{Refusal}
use Rattle.refusals.specs.Refusals.{outcome_by}

-- checks 1 to 7: the words needed, or a refusal
abbrev pub checked_of : Result ℕ Refusal → Outcome ℕ
checked_of = outcome_by (λ needed. needed)

-- a build: the total length, or a refusal
abbrev pub built_of : Result ℕ Refusal → Outcome ℕ
built_of = outcome_by (λ total. total)

-- checks 8, 22 and 9 and the build behind them: the answer; the output, unchanged by a refusal; and words past those needed are kept
pub record LateBuilt (F : Form) (B : Input) (work out : List ℕ) (said : Outcome ℕ) (work' out' : List ℕ) : Type 0 where
  pub answer : said ≡ outcome (build_late F B (length out)) (length_of F (built B))
  pub output :
      out' ≡ cond (any_applies (build_late F B (length out))) out (encode F (built B) ++ drop (length_of F (built B)) out)
  pub kept : Kept work work' 0 (work_needed B.graph)
