-- The groups of changed vertices marked, the vertices that they reach marked, and a state told from the mark of its vertex.
use Rattle.std.specs.Prelude.{true, cond, ◌≡◌, List, [], ◌∷◌, ◌++◌, map, ℕ, ◌≤◌, ◌<◌, leb, eqb, length, get_or, drop}
use Rattle.lineage.specs.Lists.{upto, among}
use Rattle.lineage.specs.Index.{Index}
use Rattle.reach.specs.Marks.{mark_in}
use Rattle.rules_states.specs.Rules.{suspect, unknown, affected}

-- every vertex of the list is below n
pub record InRange (n : ℕ) (changed : List ℕ) : Type 0 where
  pub low : (u : ℕ) → among u changed ≡ true → u < n

-- the groups of the vertices are marked, beside those that were
unfoldable pub mark_each : Index → List ℕ → List ℕ → List ℕ
unfolding mark_in
mark_each I [] marks = marks
mark_each I (u ∷ us) marks = mark_each I us (mark_in I u marks)

-- n marks, one for each vertex, and behind them those that were
unfoldable pub marks_of : ℕ → (ℕ → ℕ) → List ℕ → List ℕ
marks_of n mark marks = map mark (upto n) ++ drop n marks

-- a vertex is marked where its group is, whose mark stands at its name
abbrev pub group_mark : (names marks : List ℕ) → ℕ → ℕ
group_mark names marks v = cond (eqb (get_or marks (get_or names v 0) 0) 1) 1 0

unfoldable pub vertex_marks : (names marks : List ℕ) → List ℕ
unfolding marks_of
vertex_marks names marks = marks_of (length names) (group_mark names marks) marks

-- a vertex is marked where a changed vertex reaches it
unfoldable pub affected_marks : Index → List ℕ → List ℕ → List ℕ
unfolding marks_of affected
affected_marks I changed marks = marks_of (length I.names) (λ v. cond (affected I changed v) 1 0) marks

-- a record's state by the mark of its vertex, of n vertices
unfoldable pub state_by : (marks : List ℕ) → (n vertex state : ℕ) → ℕ
state_by marks n vertex state = cond (leb n vertex) unknown (cond (eqb (get_or marks vertex 0) 1) suspect state)

-- what is asked of names and marks: a name is not above its vertex and is its own name, and there is a mark for each vertex
pub record Named (names : List ℕ) (marks : ℕ) : Type 0 where
  pub room : length names ≤ marks
  pub name_low : (v : ℕ) → v < length names → get_or names v 0 ≤ v
  pub name_own : (v : ℕ) → v < length names → get_or names (get_or names v 0) 0 ≡ get_or names v 0
