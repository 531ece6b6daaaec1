-- Marks set in lent bytes.
use Rattle.std.specs.Prelude.{List, [], ◌∷◌, ℕ, set}

-- marks with 1 at each number of the list
abbrev pub mark_all : List ℕ → List ℕ → List ℕ
mark_all [] marks = marks
mark_all (q ∷ qs) marks = mark_all qs (set marks q 1)
