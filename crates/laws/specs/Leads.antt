-- Paths: down given children, or along given edges.
use Rattle.std.specs.Prelude.{true, ◌≡◌, List, [], ℕ, get_or}
use Rattle.lineage.specs.Lists.{among}
use Rattle.lineage.specs.Graph.{Graph, Reaches}

-- zero or more steps lead from p to q, each to one of `next` of where it stands
pub data Leads (next : ℕ → List ℕ) : ℕ → ℕ → Type 0 where
  stay : {p : ℕ} → Leads next p p
  step : {p q t : ℕ} → among q (next p) ≡ true → Leads next q t → Leads next p t

-- a path down children
abbrev pub Down : List (List ℕ) → ℕ → ℕ → Type 0
Down children = Leads (λ p. get_or children p [])

-- two vertices are in one group: each reaches the other
abbrev pub OneGroup : Graph → ℕ → ℕ → Type 0
OneGroup G u v = Reaches G u v × Reaches G v u

-- the same along `next`
abbrev pub Mutual : (ℕ → List ℕ) → ℕ → ℕ → Type 0
Mutual next u v = Leads next u v × Leads next v u
