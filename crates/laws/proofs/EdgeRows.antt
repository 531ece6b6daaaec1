-- Rows that hold the edges of a graph: paths along them are the graph's, whatever the sequence in the rows. The rows of an edge list are such.
use mathlib.Core.Bool.{Bool, true, false, false≢true}
use mathlib.Core.Logic.{inl, inr, ◌↔◌}
use mathlib.Core.Path.{◌≡◌, refl}
use mathlib.Core.List.{List, [], ◌∷◌}
use Prim.Native.Nat.{ℕ, ◌<◌}
use lib.Dec.{eqb}
use borrow.Author.Tests.{eqb-true, eq-eqb}
use Rattle.lineage.specs.Lists.{among}
use Rattle.lineage.specs.Graph.{Graph, Edge, first, later, Ends, Reaches, stay as stay_there, step as go}
use Rattle.laws.specs.Leads.{Leads, stay, step}
use Rattle.laws.specs.EdgeRows.{row, EdgeRows}
use Rattle.laws.proofs.Lists.{here, there, in_cons}

-- paths along the rows are the graph's
module _ {G : Graph} (ends : Ends G) {next : ℕ → List ℕ} (N : EdgeRows G next) where
  pub leads_reaches : {u v : ℕ} → u < G.n → Leads next u v → Reaches G u v
  leads_reaches h stay = stay_there
  leads_reaches h (step {p = p} {q = q} i l) = let e = (N.holds p q h).0 i in go e (leads_reaches (ends.targets_low p q e) l)

  pub reaches_leads : {u v : ℕ} → Reaches G u v → Leads next u v
  reaches_leads stay_there = stay
  reaches_leads (go {u = u} {w = w} e l) = step ((N.holds u w (ends.sources_low u w e)).1 e) (reaches_leads l)

-- the rows of an edge list
row_edge : (S T : List ℕ) (u v : ℕ) → among v (row S T u) ≡ true → Edge S T u v
row_edge [] T u v h = absurd (false≢true h)
row_edge (s ∷ S) [] u v h = absurd (false≢true h)
row_edge (s ∷ S) (t ∷ T) u v h = at (eqb s u) refl (row_edge S T u v)
  where
    at : (b : Bool) → eqb s u ≡ b → (among v (row S T u) ≡ true → Edge S T u v) → Edge (s ∷ S) (t ∷ T) u v
    at true e ih = elim (in_cons v t (row S T u) (rw (e, row) at h)) [ inl k ↦ rw (← eqb-true s u e, k) first | inr k ↦ later (ih k) ]
    at false e ih = later (ih (rw (e, row) at h))

edge_row : {S T : List ℕ} {u v : ℕ} → Edge S T u v → among v (row S T u) ≡ true
edge_row (first {u = u} {v = v} {S = S} {T = T}) = rw (eq-eqb u u refl, row) (here v (row S T u))
edge_row {u = u} {v = v} (later {x = x} {y = y} {S = S} {T = T} e) = at (eqb x u) refl (edge_row e)
  where
    at : (b : Bool) → eqb x u ≡ b → among v (row S T u) ≡ true → among v (row (x ∷ S) (y ∷ T) u) ≡ true
    at true e' i = rw (e', row) (there v y (row S T u) i)
    at false e' i = rw (e', row) i

pub edge_rows : (S T : List ℕ) (u v : ℕ) → (among v (row S T u) ≡ true) ↔ Edge S T u v
edge_rows S T u v = (row_edge S T u v, edge_row)
