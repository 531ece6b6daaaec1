-- What the labellings tell of two groups: both interval tests at once, as far as the first labelling that decides.
use Rattle.std.specs.Prelude.{Bool, true, false, not, cond, List, [], ◌∷◌, ℕ, suc, ◌+◌, ◌*◌, eqb, leb}
use Rattle.lineage.specs.Numbers.{num_at}
use Rattle.lineage.specs.Labels.{Labelling}
use Rattle.lineage.specs.Question.{inside, outside}
use Rattle.ask_intervals.specs.declared.Judged.{Judged}
use Rattle.ask_intervals.specs.declared.Judged.TheVariants.{Inside, Outside, Neither}

-- labelling n decides: x's inner interval contains t's e, or else x's outer interval does not contain t's; or it decides neither, and the rest does
abbrev pub judged_by : Bool → Bool → ℕ → Judged → Judged
judged_by true o n rest = Inside n
judged_by false true n rest = Outside n
judged_by false false n rest = rest

-- the first labelling that decides either way, by its number, counted on from n
abbrev pub judged_from : ℕ → (x t : ℕ) → List Labelling → Judged
judged_from n x t [] = Neither
judged_from n x t (l ∷ ls) = judged_by (inside x t l) (outside x t l) n (judged_from (suc n) x t ls)

-- counted from 1
abbrev pub judged : (x t : ℕ) → List Labelling → Judged
judged x t ls = judged_from 1 x t ls

-- bound b of x's intervals against t's, read off one labelling's triples s, m, e, decides nothing: 0, the upper bound of both, has t's e within; 1, the inner
-- interval's lower bound leaves t's e outside; 2, the outer interval's lower bound has t's s within
abbrev pub undecided_by : ℕ → List ℕ → ℕ → ℕ → ℕ → Bool
undecided_by w triples x t b =
    cond (eqb b 0) (leb (num_at w triples (3 * t + 2)) (num_at w triples (3 * x + 2)))
    (cond (eqb b 1) (not (leb (num_at w triples (3 * x + 1)) (num_at w triples (3 * t + 2)))) (leb (num_at w triples (3 * x)) (num_at w triples (3 * t))))
