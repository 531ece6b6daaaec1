-- Groups, levels and labels as document 01 tells them ("Graph, groups, levels", "Labels"), said of an index by relations: a sentence of the document for each field.
use Rattle.std.specs.Prelude.{true, ◌↔◌, ◌≡◌, List, [], map, ℕ, suc, ◌<◌, ◌≤◌, length, get_or}
use Rattle.lineage.specs.Lists.{among, those, position, least, greatest}
use Rattle.lineage.specs.Graph.{Graph, Edge}
use Rattle.lineage.specs.Labels.{Forest, in_order, nobodys_child, finished, subtree, Labelling}
use Rattle.lineage.specs.Index.{Index}
use Rattle.lineage.specs.Sound.{child_of}
use Rattle.lineage.specs.Question.{place_in}
use Rattle.laws.specs.Leads.{OneGroup}
use Rattle.laws.specs.Rising.{Rises}
use Rattle.laws.specs.Visits.{Visits}

-- the groups at two places differ, and some edge leads from the one into the other
pub record Child (G : Graph) (I : Index) (p q : ℕ) : Type 0 where
  pub differ : p ≡ q → ⊥
  pub source : ℕ
  pub target : ℕ
  pub edge : Edge G.sources G.targets source target
  pub leaves : place_in I source ≡ p
  pub enters : place_in I target ≡ q

-- the groups of a graph, by place
pub record Groups (G : Graph) (I : Index) : Type 0 where
  pub names_long : length I.names ≡ G.n
  pub levels_long : length I.levels ≡ length I.groups
  pub children_long : length I.children ≡ length I.groups
  -- two vertices are in one group when each reaches the other; a group's name is its smallest vertex
  pub name_in : (v : ℕ) → v < G.n → OneGroup G v (get_or I.names v 0)
  pub name_smallest : (v w : ℕ) → v < G.n → w < G.n → OneGroup G v w → get_or I.names v 0 ≤ w
  -- its place is its position, from 0, among all names in rising order
  pub all_names : (a : ℕ) → (among a I.groups ≡ true) ↔ ((a < G.n) × (get_or I.names a 0 ≡ a))
  pub names_rise : Rises I.groups
  -- group B is a child of group A when A and B differ and some edge leads from A into B
  pub child : (p q : ℕ) → p < length I.groups → (child_of I.children p q ≡ true) ↔ Child G I p q
  pub children_rise : (p : ℕ) → p < length I.groups → Rises (get_or I.children p [])
  -- the level of a group is 0 without children, otherwise one more than the greatest level among its children
  pub level : (p : ℕ) → p < length I.groups → get_or I.levels p 0 ≡ greatest (map (λ q. suc (get_or I.levels q 0)) (get_or I.children p []))

-- one labelling is one traversal
pub record Labels (I : Index) (order : List ℕ) (l : Labelling) : Type 0 where
  pub forest : Forest
  -- it starts from the groups that are nobody's child, in that order, and at a group goes on to each child not yet visited, in that order
  pub traversal :
      Visits (λ p. those (child_of I.children p) (in_order order I.groups)) (those (nobodys_child I.children) (in_order order I.groups)) [] forest
  -- groups are ranked from 1 as they are finished; e is the group's rank
  pub by_rank : l.by_rank ≡ finished forest
  pub e : (p : ℕ) → p < length I.groups → get_or l.e p 0 ≡ suc (position p (finished forest))
  -- s is the least of the group's own e and its children's s
  pub s : (p : ℕ) → p < length I.groups → get_or l.s p 0 ≡ least (get_or l.e p 0) (map (λ q. get_or l.s q 0) (get_or I.children p []))
  -- m is the least rank in the group's traversal subtree
  pub m : (p : ℕ) → p < length I.groups → get_or l.m p 0 ≡ least (get_or l.e p 0) (map (λ q. get_or l.e q 0) (subtree p forest))

-- the index is that of the graph under the orders
pub record Grail (G : Graph) (orders : List (List ℕ)) (I : Index) : Type 0 where
  pub groups : Groups G I
  pub as_many : length I.labels ≡ length orders
  pub labels : (j : ℕ) (none : Labelling) → j < length orders → Labels I (get_or orders j []) (get_or I.labels j none)
