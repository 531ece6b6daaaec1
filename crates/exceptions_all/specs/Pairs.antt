-- Many pairs of vertices below n, over any way of saying yes or no: the three numbers of each, in list order. And what is answered by a table of places.
use Rattle.std.specs.Prelude.{Bool, not, ◌&&◌, cond, List, [], ◌∷◌, map, ℕ, ◌<◌, leb, length, get_or}
use Rattle.lineage.specs.Lists.{upto, joined}
use Rattle.lineage.specs.Question.{outside, some_labelling}
use Rattle.stored.specs.declared.reading.Labels.{Labels}
use Rattle.exceptions_marks.specs.Marks.{labels_of}
use Rattle.exceptions_ask.specs.Listed.{list_in, has_place, ListIn}

module _ (n : ℕ) (says : ℕ → ℕ → Bool) where
  -- refusal, extra, yes (1) or no (0): 14 where a vertex is n or more, source first
  unfoldable pub pair_three : (u v : ℕ) → List ℕ
  pair_three u v = cond (leb n u) (14 ∷ 0 ∷ 0 ∷ []) (cond (leb n v) (14 ∷ 1 ∷ 0 ∷ []) (0 ∷ 0 ∷ cond (says u v) 1 0 ∷ []))

  -- the first i pairs
  unfoldable pub threes : (sources targets : List ℕ) → ℕ → List ℕ
  unfolding pair_three
  threes sources targets i = joined (map (λ j. pair_three (get_or sources j 0) (get_or targets j 0)) (upto i))

-- by a table of places: contained and not listed
abbrev pub by_place : Labels → (lists places : List ℕ) → ℕ → ℕ → Bool
by_place labels lists places u v =
    not (some_labelling (outside (get_or places u 0) (get_or places v 0)) (labels_of labels)) && not (has_place (get_or places v 0) (list_in lists labels.k (get_or places u 0)))

-- lists of the groups that the labels are of, and a table of every vertex's place among these
pub record Ready (labels : Labels) (lists places : List ℕ) : Type 0 where
  pub listed : (x : ℕ) → x < labels.k → ListIn lists labels.k x
  pub low : (u : ℕ) → u < length places → get_or places u 0 < labels.k
