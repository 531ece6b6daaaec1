-- A group is a child of two others where its row of parents has two entries or more.
use Rattle.std.specs.Prelude.{Bool, List, ℕ, suc, ◌+◌, ltb, get_or}

-- row q ends behind the entry that follows its start
abbrev pub row_shared : List ℕ → ℕ → Bool
row_shared starts q = ltb (get_or starts q 0 + 1) (get_or starts (suc q) 0)
