-- A traversal with its labels in work memory. Behind the marks and the frames three regions of n words: the vertices as they are finished; for each vertex one
-- more than how many were finished before it was entered, m; and its rank, e. The mark of a finished vertex is its s.
use Rattle.std.specs.Prelude.{true, ◌≡◌, List, map, ℕ, suc, ◌+◌, ◌*◌, ◌≤◌, ◌<◌, length, get_or, set}
use Rattle.lineage.specs.Lists.{among, position, least, part}
use Rattle.lineage.specs.Labels.{Forest, finished}
use Rattle.laws.specs.Visits.{before}
use Rattle.build_traversal.specs.Frames.{framed}

-- v is entered at depth d, with k finished before it, to come back to place e; s is the least that the vertex below has come upon
abbrev pub entered : List ℕ → ℕ → ℕ → ℕ → ℕ → ℕ → ℕ → ℕ → List ℕ
entered work base n d k v e s = set (framed work base n d v 1 e s) (base + 5 * n + v) (k + 1)

-- v is left with this s, as the vertex finished behind k others
abbrev pub finished_at : List ℕ → ℕ → ℕ → ℕ → ℕ → ℕ → List ℕ
finished_at work base n k v s = set (set (set work (base + v) s) (base + 4 * n + k) v) (base + 6 * n + v) (k + 1)

-- some number falls along the rows of n vertices
pub record Downhill (next : ℕ → List ℕ) (n : ℕ) : Type 0 where
  pub height : ℕ → ℕ
  pub falls : (p q : ℕ) → p < n → among q (next p) ≡ true → height q < height p

-- r vertices are finished, as in the forest; where the rows go downhill, each has for its s the least of its e and the s of its row
pub record Traversed (next : ℕ → List ℕ) (F : Forest) (work : List ℕ) (base n r : ℕ) : Type 0 where
  pub most : r ≤ n
  pub out : part work (base + 4 * n) r ≡ finished F
  pub m : (v : ℕ) → among v (finished F) ≡ true → get_or (part work (base + 5 * n) n) v 0 ≡ suc (length (before v F))
  pub e : (v : ℕ) → among v (finished F) ≡ true → get_or (part work (base + 6 * n) n) v 0 ≡ suc (position v (finished F))
  pub s :
      Downhill next n → (v : ℕ) → among v (finished F) ≡ true
      → get_or (part work base n) v 0 ≡ least (suc (position v (finished F))) (map (λ q. get_or (part work base n) q 0) (next v))
