-- Two calls that both take the form that bytes name, or both do not, answer a question on them alike: of the forms taken only 11 looks at it.
use mathlib.Core.Bool.{Bool, not, cond}
use mathlib.Core.Path.{◌≡◌, ap}
use mathlib.Core.List.{List, [], ◌∷◌, ◌++◌}
use Prim.Native.Nat.{ℕ}
use lib.Dec.{ltb}
use lib.ListN.{length, drop}
use Rattle.lineage.specs.Lists.{cleared}
use Rattle.lineage.specs.Stored.{header_length, header_at, counts_in}
use Rattle.lineage.specs.Question.{answer}
use Rattle.lineage.specs.Calls.{Check, check, outcome, any_applies, FormsTaken, takes, contents_check, index_in, said_of, ask_early, ask_answer, ask_marks}

module _ (T T' : FormsTaken) (b : List ℕ) (alike : takes T (header_at b 0) ≡ takes T' (header_at b 0)) (u v : ℕ) where
  -- the checks before 15, where t tells whether the form is taken
  abbrev early : (marks work : ℕ) → Bool → List Check
  early marks work t = check (ltb (length b) header_length) 10 0 ∷ check (not t) 11 (header_at b 0) ∷ drop 2 (ask_early T b u v marks work)

  pub asked_as : (marks work : ℕ) → ask_answer T b u v marks work ≡ ask_answer T' b u v marks work
  unfolding ask_answer
  asked_as marks work = ap (λ (t : Bool). outcome (early marks work t ++ (contents_check b ∷ [])) (said_of (answer (index_in b) u v))) alike

  pub ask_marks_as : (marks : List ℕ) (work : ℕ) → ask_marks T b u v marks work ≡ ask_marks T' b u v marks work
  unfolding ask_marks
  ask_marks_as marks work =
      ap
      (λ (t : Bool).
      cond (any_applies (early (length marks) work t ++ (contents_check b ∷ [])))
      (cond (any_applies (early (length marks) work t)) marks (cleared (counts_in b).n marks))
      ((answer (index_in b) u v).marks ++ drop (counts_in b).n marks))
      alike
