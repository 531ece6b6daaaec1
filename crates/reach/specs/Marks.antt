-- The marks of what is reached: groups marked, and the sweep over an index, by its first labelling.
use Rattle.std.specs.Prelude.{List, [], ℕ, length, get_or, set}
use Rattle.lineage.specs.Lists.{cleared}
use Rattle.lineage.specs.Labels.{Labelling}
use Rattle.lineage.specs.Index.{Index}
use Rattle.lineage.specs.Question.{place_in}
use Rattle.reach_sweep.specs.Sweep.{swept}

-- the first labelling; where there is none, an empty one
abbrev pub first_labels : List Labelling → Labelling
first_labels labels = get_or labels 0 (record { s = []; m = []; e = []; by_rank = [] })

-- the rank of vertex u's group in the first labelling
unfoldable pub rank_in : Index → ℕ → ℕ
rank_in I u = get_or (first_labels I.labels).e (place_in I u) 0

-- the marks after the sweep over an index, from rank `top` down
unfoldable pub swept_in : Index → ℕ → List ℕ → List ℕ
unfolding swept
swept_in I top marks = swept I.groups I.children (first_labels I.labels).by_rank top marks

-- vertex u's group is marked, beside those that were
unfoldable pub mark_in : Index → ℕ → List ℕ → List ℕ
mark_in I u marks = set marks (get_or I.names u 0) 1

-- the groups that vertex u's group reaches are marked, and no others
unfoldable pub reach_marks : Index → ℕ → List ℕ → List ℕ
unfolding rank_in swept_in mark_in cleared
reach_marks I u marks = swept_in I (rank_in I u) (mark_in I u (cleared (length I.names) marks))
