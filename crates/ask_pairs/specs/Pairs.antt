-- Many pairs of vertices below n, over any way of answering: the six numbers of each, in list order, and the marks that they leave.
use Rattle.std.specs.Prelude.{◌||◌, cond, List, [], ◌∷◌, map, ℕ, zero, suc, leb, get_or, replicate}
use Rattle.lineage.specs.Lists.{upto, joined}
use Rattle.lineage.specs.Question.{Answer}

-- refusal, extra, yes, reason, opened, labelling
abbrev pub six_refused : (number extra : ℕ) → List ℕ
six_refused number extra = number ∷ extra ∷ 0 ∷ 0 ∷ 0 ∷ 0 ∷ []

abbrev pub six_answered : Answer → List ℕ
six_answered a = 0 ∷ 0 ∷ cond a.says 1 0 ∷ a.reason ∷ a.opened ∷ a.deciding ∷ []

module _ (n : ℕ) (answers : ℕ → ℕ → Answer) where
  -- a pair: 14 where a vertex is n or more, source first; otherwise its answer
  unfoldable pub pair_six : (u v : ℕ) → List ℕ
  pair_six u v = cond (leb n u) (six_refused 14 0) (cond (leb n v) (six_refused 14 1) (six_answered (answers u v)))

  module _ (sources targets : List ℕ) where
    -- the first i pairs
    unfoldable pub sixes : ℕ → List ℕ
    sixes i = joined (map (λ j. pair_six (get_or sources j 0) (get_or targets j 0)) (upto i))

    -- the marks of the last of the first i pairs that was not refused, or 0 if there was none
    unfoldable pub last_marks : ℕ → List ℕ
    last_marks zero = replicate n 0
    last_marks (suc i) =
        cond (leb n (get_or sources i 0) || leb n (get_or targets i 0)) (last_marks i) (answers (get_or sources i 0) (get_or targets i 0)).marks
