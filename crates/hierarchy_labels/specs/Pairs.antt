-- The levels and the one labelling of a plain hierarchy as bytes, in pairs s, e; and the answer that a reason tells of them.
use Rattle.std.specs.Prelude.{◌||◌, cond, ◌≡◌, List, ℕ, ◌+◌, ◌*◌, ◌≤◌, ◌<◌, eqb, leb, length}
use Rattle.lineage.specs.Numbers.{num_at, numbers}
use Rattle.lineage.specs.Index.{Index}
use Rattle.lineage.specs.Question.{Answer, plain, between}
use Rattle.stored.specs.Sections.{Labellings, tuples_of, labels_in}

-- an answer by one of the rules 1 to 4 where there is one labelling: yes under 1 and 2; the labelling decides under 2 and 4; no group is opened
abbrev pub by_reason : ℕ → List ℕ → Answer
by_reason reason marks = plain (leb reason 2) reason (cond (eqb reason 2 || eqb reason 4) 1 0) marks

-- levels and pairs of k groups, of which x and t are two; t's s is not above its e
pub record Pairs (w k x t : ℕ) (levels labels : List ℕ) : Type 0 where
  pub labelled : Labellings w 2 labels k 1
  pub levels_long : w * k ≤ length levels
  pub source_low : x < k
  pub target_low : t < k
  pub ordered : num_at w (tuples_of w 2 labels k 0) (2 * t) ≤ num_at w (tuples_of w 2 labels k 0) (2 * t + 1)

-- between x and t in every index with these levels and this labelling: the reason of the answer, whatever the marks, and so all of it
abbrev pub Decides : (w k x t : ℕ) → (levels labels : List ℕ) → ℕ → Type 0
Decides w k x t levels labels reason =
    (I : Index) → I.levels ≡ numbers w levels k → I.labels ≡ labels_in w 2 labels k 1 → (marks : List ℕ) → between I x t marks ≡ by_reason reason marks
