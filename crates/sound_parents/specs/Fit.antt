-- What is asked of the child entries before they are marked.
use Rattle.std.specs.Prelude.{List, ℕ, ◌<◌, length, get_or}

-- child entries within the marks
pub record Within (entries : List ℕ) (room : ℕ) : Type 0 where
  pub low : (j : ℕ) → j < length entries → get_or entries j 0 < room
