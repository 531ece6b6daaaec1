-- A stamp for each of k numbers tells which of them a row has had: those whose stamp is the row's mark. No stamp is above it.
use Rattle.std.specs.Prelude.{◌≡◌, List, ℕ, ◌≤◌, ◌<◌, eqb, get_or}
use Rattle.lineage.specs.Lists.{among}

pub record Stamps (words : List ℕ) (k mark : ℕ) (seen : List ℕ) : Type 0 where
  pub low : (x : ℕ) → x < k → get_or words x 0 ≤ mark
  pub is : (x : ℕ) → x < k → eqb (get_or words x 0) mark ≡ among x seen
