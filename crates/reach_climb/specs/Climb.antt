-- The climb: through the places by rank, from the lowest rank up, a group with a marked child is marked. A group's mark stands at its name.
use Rattle.std.specs.Prelude.{true, cond, ◌≡◌, List, [], ℕ, zero, suc, ◌<◌, length, get_or, set}
use Rattle.lineage.specs.Lists.{any}
use Rattle.laws.specs.Leads.{Down}
use Rattle.reach_sweep.specs.Sweep.{marked}

-- a group with a marked child is marked
unfoldable pub lifted : List ℕ → List (List ℕ) → ℕ → List ℕ → List ℕ
lifted groups children p marks = cond (any (marked groups marks) (get_or children p [])) (set marks (get_or groups p 0) 1) marks

-- the marks after the climb through the lowest `ranks` ranks
unfoldable pub climbed : List ℕ → List (List ℕ) → List ℕ → ℕ → List ℕ → List ℕ
unfolding lifted
climbed groups children places zero marks = marks
climbed groups children places (suc ranks) marks = lifted groups children (get_or places ranks 0) (climbed groups children places ranks marks)

-- the group at place p reaches a marked group
pub record Reaching (groups : List ℕ) (children : List (List ℕ)) (marks : List ℕ) (p : ℕ) : Type 0 where
  pub to : ℕ
  pub low : to < length children
  pub was : marked groups marks to ≡ true
  pub path : Down children p to
