-- `reaches` computes whether a path leads from u to v. A path whose vertices in between are below k + 1 is one that keeps below k, or one
-- that goes to k and on from k, each part keeping below k; so paths that keep below k join at each vertex below k, and with k = n at every vertex.
use mathlib.Core.Bool.{Bool, true, ◌&&◌}
use mathlib.Core.Logic.{◌⊎◌, inl, inr, ◌↔◌}
use mathlib.Core.Path.{◌≡◌, refl, subst}
use mathlib.Core.List.{List}
use Prim.Native.Nat.{ℕ, zero, suc, ◌<◌}
use native.Mathlib.Nat.{not-suc-le-zero}
use native.Mathlib.Decide.{ℕ_discrete}
use native.Mathlib.Omega.{arith}
use lib.Dec.{eqb}
use borrow.Author.Tests.{eqb-true, eq-eqb}
use Rattle.lineage.specs.Graph.{Graph, Edge, Ends, Reaches, stay, step, some_edge, via, reaches}
use Rattle.laws.proofs.Tests.{or_left, or_right, or_cases, and_both, and_left, and_right}
use Rattle.laws.proofs.Edges.{some_edge_lem, edge_some}

-- paths join
pub reaches_on : {G : Graph} {u w v : ℕ} → Reaches G u w → Reaches G w v → Reaches G u v
reaches_on stay q = q
reaches_on (step e p) q = step e (reaches_on p q)

-- whether an edge leads from u to v, as a test
abbrev between : ℕ → ℕ → ℕ → ℕ → Bool
between u v s t = eqb s u && eqb t v

edge_to : (u v : ℕ) (S T : List ℕ) → some_edge (between u v) S T ≡ true → Edge S T u v
edge_to u v S T h =
    let (s, t, e, b) = some_edge_lem (between u v) S T h in
    let from : Edge S T u t = subst (λ x. Edge S T x t) (eqb-true s u (and_left (eqb s u) _ b)) e in
    subst (Edge S T u) (eqb-true t v (and_right (eqb s u) _ b)) from

edge_from : {u v : ℕ} {S T : List ℕ} → Edge S T u v → some_edge (between u v) S T ≡ true
edge_from {u} {v} e = edge_some (between u v) e (and_both (eq-eqb u u refl) (eq-eqb v v refl))

module _ (G : Graph) where
  via_path : (k u v : ℕ) → via G k u v ≡ true → Reaches G u v
  unfolding via
  via_path zero u v h =
      elim (or_cases (eqb u v) _ h) [
        | inl i ↦ rw (eqb-true u v i) stay
        | inr i ↦ step (edge_to u v G.sources G.targets i) stay
      ]
  via_path (suc k) u v h =
      elim (or_cases (via G k u v) _ h) [
        | inl i ↦ via_path k u v i
        | inr i ↦ reaches_on (via_path k u k (and_left (via G k u k) _ i)) (via_path k k v (and_right (via G k u k) _ i))
      ]

  through : (k u v : ℕ) → via G k u k ≡ true → via G k k v ≡ true → via G (suc k) u v ≡ true
  unfolding via
  through k u v p q = or_right (via G k u v) (and_both p q)

  more : (k u v : ℕ) → via G k u v ≡ true → via G (suc k) u v ≡ true
  unfolding via
  more k u v p = or_left _ p

  -- a path that keeps below k + 1, to k or from k, keeps below k
  to_k : (k u : ℕ) → via G (suc k) u k ≡ true → via G k u k ≡ true
  unfolding via
  to_k k u h = elim (or_cases (via G k u k) _ h) [ inl i ↦ i | inr i ↦ and_left (via G k u k) _ i ]

  from_k : (k v : ℕ) → via G (suc k) k v ≡ true → via G k k v ≡ true
  unfolding via
  from_k k v h = elim (or_cases (via G k k v) _ h) [ inl i ↦ i | inr i ↦ and_right (via G k k k) _ i ]

  -- what a path that keeps below k + 1 is made of
  via_parts : (k u v : ℕ) → via G (suc k) u v ≡ true → (via G k u v ≡ true) ⊎ ((via G k u k ≡ true) × (via G k k v ≡ true))
  unfolding via
  via_parts k u v h =
      elim (or_cases (via G k u v) _ h) [ inl i ↦ inl i | inr i ↦ inr (and_left (via G k u k) _ i, and_right (via G k u k) _ i) ]

  -- paths that keep below k join at each m below k
  join : (k m u v : ℕ) → m < k → via G k u m ≡ true → via G k m v ≡ true → via G k u v ≡ true
  join zero m u v lt p q = absurd (not-suc-le-zero lt)
  join (suc k) m u v lt p q = at (join k m) (ℕ_discrete m k) (via_parts k u m p) (via_parts k m v q)
    where
      at :
          ((a b : ℕ) → m < k → via G k a m ≡ true → via G k m b ≡ true → via G k a b ≡ true)
          → Dec (m ≡ k)
          → (via G k u m ≡ true) ⊎ ((via G k u k ≡ true) × (via G k k m ≡ true))
          → (via G k m v ≡ true) ⊎ ((via G k m k ≡ true) × (via G k k v ≡ true))
          → via G (suc k) u v ≡ true
      at ih (yes e) a b = through k u v (to_k k u (rw e at p)) (from_k k v (rw e at q))
      at ih (no ne) (inl a) (inl b) = more k u v (ih u v (omega arith) a b)
      at ih (no ne) (inl a) (inr b) = through k u v (ih u k (omega arith) a b.0) b.1
      at ih (no ne) (inr a) (inl b) = through k u v a.0 (ih k v (omega arith) a.1 b)
      at ih (no ne) (inr a) (inr b) = through k u v a.0 b.1

  via_grows : (k u v : ℕ) → via G 0 u v ≡ true → via G k u v ≡ true
  via_grows zero u v h = h
  via_grows (suc k) u v h = more k u v (via_grows k u v h)

  module _ (ends : Ends G) where
    path_via : {u v : ℕ} → Reaches G u v → reaches G u v ≡ true
    unfolding reaches via
    path_via (stay {u = u}) = via_grows G.n u u (or_left _ (eq-eqb u u refl))
    path_via (step {u = u} {w = w} {v = v} e p) =
        join G.n w u v (ends.targets_low u w e) (via_grows G.n u w (or_right (eqb u w) (edge_from e))) (path_via p)

    -- `reaches` computes whether a path leads from u to v
    pub reaches_exactly : (u v : ℕ) → (reaches G u v ≡ true) ↔ Reaches G u v
    unfolding reaches
    reaches_exactly u v = (via_path G.n u v, path_via)
