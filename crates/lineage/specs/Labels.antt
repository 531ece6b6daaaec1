-- Labels (document 01, "Labels"): one labelling is one traversal of the groups under one order.
use Rattle.std.specs.Prelude.{Bool, true, false, not, ◌≡◌, List, [], ◌∷◌, ◌++◌, map, ℕ, zero, suc, ◌<◌, eqb, length, get_or}
use Rattle.lineage.specs.Lists.{upto, among, those, position, least, joined}
use Rattle.lineage.specs.Graph.{place_of}

-- an order is a permutation of 0 to n - 1: n numbers, and every number below n stands among them
pub record Order (n : ℕ) (order : List ℕ) : Type 0 where
  pub long : length order ≡ n
  pub all : (v : ℕ) → v < n → among v order ≡ true

-- groups compare by where their names stand in the order: all places, in that order
unfoldable pub in_order : List ℕ → List ℕ → List ℕ
in_order order groups = map (place_of groups) (those (λ v. among v groups) order)

-- a traversal: `visit p below next` goes into p, goes on to the children of p not yet visited (below), finishes p, and goes on (next)
pub data Forest : Type 0 where
  done : Forest
  visit : ℕ → Forest → Forest → Forest

-- what is visited once the forest is gone through, the last entered first
abbrev pub after : Forest → List ℕ → List ℕ
after done seen = seen
after (visit p below next) seen = after next (after below (p ∷ seen))

-- through the places of a list, past those visited; at each it goes on `deeper`, to that place's children
abbrev pub along : (List ℕ → List ℕ → Forest) → (ℕ → List ℕ) → List ℕ → List ℕ → Forest
along deeper next [] seen = done
along deeper next (p ∷ todo) seen =
    elim (among p seen) [
      | true ↦ along deeper next todo seen
      | false ↦
          let below : Forest = deeper (next p) (p ∷ seen) in
          visit p below (along deeper next todo (after below (p ∷ seen)))
    ]

-- the traversal from the places of a list; `next p` are the children of p in order, f bounds how deep it goes
unfoldable pub traverse : (ℕ → List ℕ) → ℕ → List ℕ → List ℕ → Forest
traverse next zero todo seen = done
traverse next (suc f) todo seen = along (traverse next f) next todo seen

-- the group is nobody's child
unfoldable pub nobodys_child : List (List ℕ) → ℕ → Bool
nobodys_child children p = not (among p (joined children))

-- it starts from the groups that are nobody's child, in that order, and at a group goes on to each child not yet visited, in that order
unfoldable pub forest_of : List (List ℕ) → List ℕ → Forest
unfolding traverse nobodys_child
forest_of children ranked =
    traverse (λ p. those (λ q. among q (get_or children p [])) ranked) (suc (length children)) (those (nobodys_child children) ranked) []

-- the groups as they are finished
abbrev pub finished : Forest → List ℕ
finished done = []
finished (visit p below next) = finished below ++ (p ∷ finished next)

-- the groups of x's traversal subtree as they are finished, x itself last; none where x is not visited
abbrev pub subtree : ℕ → Forest → List ℕ
subtree x done = []
subtree x (visit p below next) =
    elim (eqb x p) [
      | true ↦ finished below ++ (p ∷ [])
      | false ↦ elim (among x (finished below)) [ true ↦ subtree x below | false ↦ subtree x next ]
    ]

-- s is the least of the group's own e and its children's s; f bounds how deep it looks
unfoldable pub outer : List (List ℕ) → List ℕ → ℕ → ℕ → ℕ
outer children e zero p = get_or e p 0
outer children e (suc f) p = least (get_or e p 0) (map (outer children e f) (get_or children p []))

-- s, m and e by place, and the places by rank: the outer interval is [s, e], the inner interval is [m, e]
pub record Labelling : Type 0 where
  pub s : List ℕ
  pub m : List ℕ
  pub e : List ℕ
  pub by_rank : List ℕ

-- groups are ranked from 1 as they are finished, e is the group's rank; m is the least rank in the group's traversal subtree
unfoldable pub labels_by : ℕ → List (List ℕ) → Forest → Labelling
unfolding outer
labels_by k children forest =
    let by_rank : List ℕ = finished forest in
    let e : List ℕ = map (λ p. suc (position p by_rank)) (upto k) in
    record {
      s = map (outer children e k) (upto k);
      m = map (λ p. least (get_or e p 0) (map (λ q. get_or e q 0) (subtree p forest))) (upto k);
      e = e;
      by_rank = by_rank;
    }

-- the labelling under one order
unfoldable pub labelling : List ℕ → List (List ℕ) → List ℕ → Labelling
unfolding in_order forest_of labels_by
labelling groups children order = labels_by (length groups) children (forest_of children (in_order order groups))
