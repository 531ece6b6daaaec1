-- Words by number: a pass through a list of numbers stamps the word of each.
use Rattle.std.specs.Prelude.{cond, ◌≡◌, List, ℕ, ◌<◌, length, get_or}
use Rattle.lineage.specs.Lists.{among}

-- the words of the numbers that stand in the list are the stamp, the others are as they were
pub record Stamped (stamp : ℕ) (numbers words words' : List ℕ) : Type 0 where
  pub at : (v : ℕ) → v < length words → get_or words' v 0 ≡ cond (among v numbers) stamp (get_or words v 0)
