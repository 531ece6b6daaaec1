-- The downward sweep: through the places by rank, from a highest rank down to 1, each marked group marks its children. A group's mark stands at its name.
use Rattle.std.specs.Prelude.{Bool, true, cond, ◌≡◌, List, [], map, ℕ, zero, suc, ◌<◌, eqb, length, get_or}
use Rattle.laws.specs.Leads.{Down}
use Rattle.numbers.specs.Marks.{mark_all}

-- the group at place p is marked
abbrev pub marked : List ℕ → List ℕ → ℕ → Bool
marked groups marks p = eqb (get_or marks (get_or groups p 0) 0) 1

-- marks with the groups of a row marked too
unfoldable pub row_marked : List ℕ → List ℕ → List ℕ → List ℕ
row_marked groups row marks = mark_all (map (λ q. get_or groups q 0) row) marks

-- a marked group marks its children
unfoldable pub turn : List ℕ → List (List ℕ) → ℕ → List ℕ → List ℕ
unfolding row_marked
turn groups children p marks = cond (marked groups marks p) (row_marked groups (get_or children p []) marks) marks

-- the marks after the sweep from rank `top` down
unfoldable pub swept : List ℕ → List (List ℕ) → List ℕ → ℕ → List ℕ → List ℕ
unfolding turn
swept groups children places zero marks = marks
swept groups children places (suc top) marks = swept groups children places top (turn groups children (get_or places top 0) marks)

-- the group at place q is reached from a marked group
pub record Reached (groups : List ℕ) (children : List (List ℕ)) (marks : List ℕ) (q : ℕ) : Type 0 where
  pub from : ℕ
  pub low : from < length children
  pub was : marked groups marks from ≡ true
  pub path : Down children from q
