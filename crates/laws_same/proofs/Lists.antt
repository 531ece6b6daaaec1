-- Shuffling the edges, repeating one, or adding a self-loop leaves the edges between different vertices as they were. An edge is a position of the two lists: a
-- permutation of the positions keeps each of them, and the edge put in is there already or leads from a vertex to itself.
use mathlib.Core.Logic.{◌≢◌}
use mathlib.Core.Path.{◌≡◌, refl, sym, ◌∙◌}
use mathlib.Core.List.{List, map}
use Prim.Native.Nat.{ℕ, ◌<◌}
use native.Mathlib.Decide.{dec_lt}
use native.Mathlib.Omega.{arith}
use lib.ListN.{length, get_or, get_or-eq_default}
use Rattle.lineage.specs.Graph.{Graph, Edge, first, later}
use Rattle.laws.proofs.Edges.{edge_at, edge_position, edge_map, map_edge}
use Rattle.laws_same.specs.Same.{SameEdges, Shuffled, Inserted, here, behind, OneMore}

-- one edge more: the others stay, and what holds of it and of the others holds of all
more_kept : {u v a b : ℕ} {S T S' T' : List ℕ} → Inserted u v S T S' T' → Edge S T a b → Edge S' T' a b
more_kept here e = later e
more_kept (behind m) first = first
more_kept (behind m) (later e) = later (more_kept m e)

more_all :
    (P : ℕ → ℕ → Type 0) {u v a b : ℕ} {S T S' T' : List ℕ} → Inserted u v S T S' T' → P u v → ((x y : ℕ) → Edge S T x y → P x y)
    → Edge S' T' a b → P a b
more_all P here new old first = new
more_all P here new old (later e) = old _ _ e
more_all P (behind m) new old first = old _ _ first
more_all P (behind m) new old (later e) = more_all P m new (λ x y i. old x y (later i)) e

module _ (G H : Graph) where
  abbrev In : ℕ → ℕ → Type 0
  In = Edge G.sources G.targets

  -- an edge repeated
  pub repeated_same : {u v : ℕ} → In u v → OneMore u v G H → SameEdges G H
  repeated_same old m = record { edges = λ u v apart. (more_kept m, more_all In m old (λ x y e. e)) }

  -- a self-loop more
  pub looped_same : {w : ℕ} → OneMore w w G H → SameEdges G H
  looped_same m = record {
    edges = λ u v apart. (more_kept m, λ e. more_all (λ x y. x ≢ y → In x y) m (λ own. absurd (own refl)) (λ x y i other. i) e apart);
  }

  -- the edges in another order
  module _ (paired : length G.sources ≡ length G.targets) (F : Shuffled G H) where
    abbrev source : ℕ → ℕ
    source i = get_or G.sources i 0

    abbrev target : ℕ → ℕ
    target i = get_or G.targets i 0

    to : (i : ℕ) {u v : ℕ} → i < length G.sources → source i ≡ u → target i ≡ v → Edge (map source F.positions) (map target F.positions) u v
    to i h s t = rw (← s, ← t) (edge_map source target i F.positions (F.permuted.all i h))

    -- past the lists there is no edge between different vertices: both ends would be 0
    from : (i : ℕ) → source i ≢ target i → In (source i) (target i)
    from i apart = at (dec_lt i (length G.sources))
      where
        at : Dec (i < length G.sources) → In (source i) (target i)
        at (yes h) = edge_at G.sources G.targets i paired h
        at (no h) = absurd (apart (get_or-eq_default G.sources 0 (omega arith) ∙ sym (get_or-eq_default G.targets 0 (omega arith))))

    pub shuffled_same : SameEdges G H
    shuffled_same = record {
      edges = λ u v apart. rw (F.sources, F.targets) (
        λ e. let (i, h, s, t) = edge_position e in to i h s t,
        λ e. map_edge (λ x y. x ≢ y → In x y) source target F.positions (λ i j. from i) e apart,
      );
    }
