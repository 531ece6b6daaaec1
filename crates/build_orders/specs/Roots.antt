-- A group is nobody's child where its row of parents is empty.
use Rattle.std.specs.Prelude.{Bool, List, ℕ, suc, eqb, get_or}

-- row q ends where it starts
abbrev pub row_empty : List ℕ → ℕ → Bool
row_empty starts q = eqb (get_or starts (suc q) 0) (get_or starts q 0)
