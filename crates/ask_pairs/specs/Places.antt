-- The place of every vertex's group, laid out in words: what is asked of the group list and of the names, what stands in the words, and what is answered by them.
use Rattle.std.specs.Prelude.{◌≡◌, List, ℕ, ◌*◌, ◌≤◌, ◌<◌, length, get_or, replicate}
use Rattle.lineage.specs.Lists.{part}
use Rattle.lineage.specs.Numbers.{Width, num_at}
use Rattle.lineage.specs.Question.{Answer, between}
use Rattle.numbers.specs.Bounds.{vertex_bound}
use Rattle.ask_walk.specs.Fit.{groups_in, Fit}
use Rattle.ask_stacked.specs.Words.{stack_words}

-- a list of k names, each below n and at one place only
pub record Listed (w n k : ℕ) (groups : List ℕ) : Type 0 where
  pub width : Width w
  pub few : k ≤ vertex_bound
  pub long : w * k ≤ length groups
  pub low : (p : ℕ) → p < k → num_at w groups p < n
  pub once : (p q : ℕ) → p < k → q < k → num_at w groups p ≡ num_at w groups q → p ≡ q

-- n vertices, each with a name below n that is its own name
pub record Named (w n : ℕ) (names : List ℕ) : Type 0 where
  pub width : Width w
  pub long : w * n ≤ length names
  pub low : (v : ℕ) → v < n → num_at w names v < n
  pub own : (v : ℕ) → v < n → num_at w names (num_at w names v) ≡ num_at w names v

-- each of k groups has its place at its name
pub record AtNames (w k : ℕ) (groups places : List ℕ) : Type 0 where
  pub at : (p : ℕ) → p < k → get_or places (num_at w groups p) 0 ≡ p

-- each of n vertices has what stood at its name
pub record FromNames (w n : ℕ) (names before places : List ℕ) : Type 0 where
  pub at : (v : ℕ) → v < n → get_or places v 0 ≡ get_or before (num_at w names v) 0

-- each of n vertices has the place of the group, of k, that bears its name
pub record Placed (w n k : ℕ) (names groups places : List ℕ) : Type 0 where
  pub at : (v p : ℕ) → v < n → p < k → num_at w groups p ≡ num_at w names v → get_or places v 0 ≡ p

-- the table of n vertices' places lies in the lent words, behind those of the walk's stack
abbrev pub table_in : (w n : ℕ) → List ℕ → List ℕ
table_in w n work = part work (stack_words w n) n

-- sections that are fit for a walk towards every group, and a table of n vertices' places
pub record Ready (w n k d : ℕ) (groups levels starts children labels places : List ℕ) : Type 0 where
  pub few : n ≤ vertex_bound
  pub low : (u : ℕ) → u < n → get_or places u 0 < k
  pub fit : (t : ℕ) → t < k → Fit w k d t groups levels starts children labels n

-- the answer between two vertices by the table
abbrev pub by_place : (w n k d : ℕ) → (groups levels starts children labels places : List ℕ) → ℕ → ℕ → Answer
by_place w n k d groups levels starts children labels places u v =
    between (groups_in w k d groups levels starts children labels) (get_or places u 0) (get_or places v 0) (replicate n 0)
