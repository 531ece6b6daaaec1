-- Marks while a labelling is tested: 1 where a place is somebody's child.
use Rattle.std.specs.Prelude.{Bool, ◌≡◌, List, ℕ, ◌≤◌, ◌<◌, eqb, length, get_or}
use Rattle.lineage.specs.Labels.{nobodys_child}

-- the mark of p is 0
abbrev pub unmarked : List ℕ → ℕ → Bool
unmarked marks p = eqb (get_or marks p 0) 0

-- marks that tell who is nobody's child
pub record Tells (children : List (List ℕ)) (marks : List ℕ) (k : ℕ) : Type 0 where
  pub long : k ≤ length marks
  pub right : (p : ℕ) → p < k → unmarked marks p ≡ nobodys_child children p
