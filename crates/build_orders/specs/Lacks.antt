-- Which numbers a pass did not stamp.
use Rattle.std.specs.Prelude.{Bool, not, List, ℕ, eqb, get_or}

-- the word of v is not the stamp
abbrev pub lacks : ℕ → List ℕ → ℕ → Bool
lacks stamp words v = not (eqb (get_or words v 0) stamp)
