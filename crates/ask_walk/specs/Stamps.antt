-- Marks that bear a stamp: a group is opened in this walk where its mark is the walk's own stamp; marks of earlier walks bear lower ones.
use Rattle.std.specs.Prelude.{cond, List, map, ℕ, ◌<◌, eqb, get_or}

-- the marks that bear this stamp, as a walk's own marks, 1 or 0
unfoldable pub seen_as : ℕ → List ℕ → List ℕ
seen_as s m = map (λ b. cond (eqb b s) 1 0) m

-- every mark is below s
pub record Under (s : ℕ) (m : List ℕ) : Type 0 where
  pub each : (i : ℕ) → get_or m i 0 < s
