-- Graph, groups, levels (document 01, "Graph, groups, levels").
use Rattle.std.specs.Prelude.{Bool, false, not, ◌&&◌, ◌||◌, ◌≡◌, List, [], ◌∷◌, map, ℕ, zero, suc, ◌<◌, eqb, length, get_or}
use Rattle.lineage.specs.Lists.{upto, any, those, first_of, position, greatest}

-- vertices are 0 to n - 1; edges are two lists, sources and targets
pub record Graph : Type 0 where
  pub n : ℕ
  pub sources : List ℕ
  pub targets : List ℕ

-- the graph with every edge turned: it leads back, from its target to its source (document 02, [13])
abbrev pub turned_graph : Graph → Graph
turned_graph G = record { n = G.n; sources = G.targets; targets = G.sources }

-- an edge leads from u to v: they stand at one position of the two lists
pub data Edge : List ℕ → List ℕ → ℕ → ℕ → Type 0 where
  first : {u v : ℕ} {S T : List ℕ} → Edge (u ∷ S) (v ∷ T) u v
  later : {u v x y : ℕ} {S T : List ℕ} → Edge S T u v → Edge (x ∷ S) (y ∷ T) u v

-- the two lists are of one length, and edges lead from vertices to vertices
pub record Ends (G : Graph) : Type 0 where
  pub paired : length G.sources ≡ length G.targets
  pub sources_low : (u v : ℕ) → Edge G.sources G.targets u v → u < G.n
  pub targets_low : (u v : ℕ) → Edge G.sources G.targets u v → v < G.n

-- u reaches v when a path of zero or more edges leads from u to v
pub data Reaches (G : Graph) : ℕ → ℕ → Type 0 where
  stay : {u : ℕ} → Reaches G u u
  step : {u w v : ℕ} → Edge G.sources G.targets u w → Reaches G w v → Reaches G u v

-- the two ends of some edge pass the test
abbrev pub some_edge : (ℕ → ℕ → Bool) → List ℕ → List ℕ → Bool
some_edge p [] T = false
some_edge p (s ∷ S) [] = false
some_edge p (s ∷ S) (t ∷ T) = p s t || some_edge p S T

-- a path from u to v whose vertices in between are below k
unfoldable pub via : Graph → ℕ → ℕ → ℕ → Bool
via G zero u v = eqb u v || some_edge (λ s t. eqb s u && eqb t v) G.sources G.targets
via G (suc k) u v = via G k u v || (via G k u k && via G k k v)

-- the same as `Reaches`, computed
unfoldable pub reaches : Graph → ℕ → ℕ → Bool
unfolding via
reaches G u v = via G G.n u v

-- two vertices are in one group when each reaches the other
unfoldable pub same_group : Graph → ℕ → ℕ → Bool
unfolding reaches
same_group G u v = reaches G u v && reaches G v u

-- a group's name is its smallest vertex
unfoldable pub name_of : Graph → ℕ → ℕ
unfolding same_group
name_of G u = first_of (same_group G u) (upto G.n) u

-- the name of each vertex's group
unfoldable pub names_of : Graph → List ℕ
unfolding name_of
names_of G = map (name_of G) (upto G.n)

-- all names in rising order: the vertices that are their own group's name
unfoldable pub group_list : List ℕ → List ℕ
group_list names = those (λ v. eqb (get_or names v 0) v) (upto (length names))

-- a group's place is its position, from 0, among all names in rising order
abbrev pub place_of : List ℕ → ℕ → ℕ
place_of groups name = position name groups

-- group b is a child of group a (both by name) when a and b differ and some edge leads from a into b
unfoldable pub is_child : Graph → List ℕ → ℕ → ℕ → Bool
is_child G names a b = not (eqb a b) && some_edge (λ s t. eqb (get_or names s 0) a && eqb (get_or names t 0) b) G.sources G.targets

-- for each place the places of its group's children, rising
unfoldable pub children_of : Graph → List ℕ → List ℕ → List (List ℕ)
unfolding is_child
children_of G names groups = map (λ a. those (λ q. is_child G names a (get_or groups q 0)) (upto (length groups))) groups

-- what the edges come to: all that follows depends on these alone
pub record Condensed : Type 0 where
  pub names : List ℕ
  pub groups : List ℕ
  pub children : List (List ℕ)

unfoldable pub condense : Graph → Condensed
unfolding names_of group_list children_of
condense G =
    let names : List ℕ = names_of G in
    let groups : List ℕ = group_list names in
    record { names = names; groups = groups; children = children_of G names groups }

-- the level of a group is 0 without children, otherwise one more than the greatest level among its children; f bounds how deep it looks
unfoldable pub level : List (List ℕ) → ℕ → ℕ → ℕ
level children zero p = 0
level children (suc f) p = greatest (map (λ q. suc (level children f q)) (get_or children p []))

-- the level of each place
unfoldable pub levels_of : List (List ℕ) → List ℕ
unfolding level
levels_of children = map (level children (length children)) (upto (length children))

-- zero or more steps, each to a child, lead from place p to place q; f bounds how many
unfoldable pub leads : List (List ℕ) → ℕ → ℕ → ℕ → Bool
leads children zero p q = eqb p q
leads children (suc f) p q = eqb p q || any (λ h. leads children f h q) (get_or children p [])
