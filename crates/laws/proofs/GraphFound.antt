-- Names, group list, children and levels that pass the tests are those of some graph. Its edges lead from each vertex to its name, from its name
-- back, and from the name of each group to those of its children. Along a path of this graph the name stays or the level falls, so vertices that
-- reach each other have one name; and an edge between two names is one to a child.
use mathlib.Core.Bool.{Bool, true}
use mathlib.Core.Logic.{◌⊎◌, inl, inr}
use mathlib.Core.Path.{◌≡◌, refl, sym, ap, ap₂, subst, ◌∙◌}
use mathlib.Core.List.{List, [], ◌++◌, map}
use Prim.Native.Nat.{ℕ, suc, ◌<◌}
use native.Mathlib.Omega.{arith}
use lib.ListN.{length, get_or, length-map, length-append}
use lib.Seq.{ext_get_or}
use Rattle.lineage.specs.Lists.{upto, those, joined}
use Rattle.lineage.specs.Graph.{Graph, Edge, Ends, Reaches, stay, step, name_of, names_of, group_list, place_of, is_child, children_of, condense, levels_of}
use Rattle.lineage.specs.Sound.{child_of}
use Rattle.laws.specs.Leads.{OneGroup}
use Rattle.laws.specs.Sound.{SoundGroups}
use Rattle.laws.proofs.Lists.{those_pass, those_keep, in_upto, upto_low, get_d_mapped, table_is}
use Rattle.laws.proofs.Rising.{rises_upto, rises_those, rises_unique}
use Rattle.laws.proofs.Edges.{child_to, child_from, edge_left, edge_right, edge_split, edge_map, map_edge, joined_paired, edge_joined, joined_edge}
use Rattle.laws.proofs.Names
use Rattle.laws.proofs.Levels.{Levels, level_unique, levels_long}
use Rattle.laws.proofs.Grouped.{name_in, group_name, place_of_name, place_one, child_in, children_rise, levels_fall}
use Rattle.laws.proofs.Condensed.{groups_sound}

module _ {names groups levels : List ℕ} {children : List (List ℕ)} (S : SoundGroups names groups levels children) where
  abbrev n : ℕ
  n = length names

  abbrev k : ℕ
  k = length children

  abbrev name : ℕ → ℕ
  name v = get_or names v 0

  abbrev name_at : ℕ → ℕ
  name_at p = get_or groups p 0

  -- the edges
  abbrev itself : ℕ → ℕ
  itself v = v

  abbrev own_s : List ℕ
  own_s = map itself (upto n)

  abbrev own_t : List ℕ
  own_t = map name (upto n)

  abbrev row_s : ℕ → List ℕ
  row_s p = map (λ q. name_at p) (get_or children p [])

  abbrev row_t : ℕ → List ℕ
  row_t p = map name_at (get_or children p [])

  abbrev child_s : List ℕ
  child_s = joined (map row_s (upto k))

  abbrev child_t : List ℕ
  child_t = joined (map row_t (upto k))

  -- all of them: own, back, and down to children
  abbrev pub graph : Graph
  graph = record { n = n; sources = own_s ++ (own_t ++ child_s); targets = own_t ++ (own_s ++ child_t) }

  -- what each edge is
  data Link : ℕ → ℕ → Type 0 where
    own : (v : ℕ) → v < n → Link v (name v)
    back : (v : ℕ) → v < n → Link (name v) v
    down : (p q : ℕ) → p < k → child_of children p q ≡ true → Link (name_at p) (name_at q)

  own_paired : length own_s ≡ length own_t
  own_paired = length-map (upto n) itself ∙ sym (length-map (upto n) name)

  row_paired : (p : ℕ) → length (row_s p) ≡ length (row_t p)
  row_paired p = length-map (get_or children p []) (λ q. name_at p) ∙ sym (length-map (get_or children p []) name_at)

  edge_link : (u v : ℕ) → Edge graph.sources graph.targets u v → Link u v
  edge_link u v e =
      elim (edge_split own_s (own_t ++ child_s) own_t (own_s ++ child_t) own_paired e) [
        | inl i ↦ map_edge Link itself name (upto n) (λ x j. own x (upto_low n x j)) i
        | inr i ↦ elim (edge_split own_t child_s own_s child_t (sym own_paired) i) [
          | inl j ↦ map_edge Link name itself (upto n) (λ x o. back x (upto_low n x o)) j
          | inr j ↦
              joined_edge row_s row_t row_paired Link (upto k)
              (λ p o s t. map_edge Link (λ x. name_at p) name_at (get_or children p []) (λ q m. down p q (upto_low k p o) m)) u v j
        ]
      ]

  own_edge : (v : ℕ) → v < n → Edge graph.sources graph.targets v (name v)
  own_edge v h = edge_left own_s (own_t ++ child_s) own_t (own_s ++ child_t) (edge_map itself name v (upto n) (in_upto n v h))

  back_edge : (v : ℕ) → v < n → Edge graph.sources graph.targets (name v) v
  back_edge v h =
      edge_right own_s (own_t ++ child_s) own_t (own_s ++ child_t) own_paired
      (edge_left own_t child_s own_s child_t (edge_map name itself v (upto n) (in_upto n v h)))

  down_edge : (p q : ℕ) → p < k → child_of children p q ≡ true → Edge graph.sources graph.targets (name_at p) (name_at q)
  down_edge p q h i =
      edge_right own_s (own_t ++ child_s) own_t (own_s ++ child_t) own_paired
      (edge_right own_t child_s own_s child_t (sym own_paired)
      (edge_joined row_s row_t row_paired p (upto k) (in_upto k p h) (edge_map (λ x. name_at p) name_at q (get_or children p []) i)))

  link_low : {u v : ℕ} → Link u v → (u < n) × (v < n)
  link_low (own v h) = (h, name_in S v h)
  link_low (back v h) = (name_in S v h, h)
  link_low (down p q h i) = ((group_name S p h).0, (group_name S q (child_in S p q h i)).0)

  -- they end at vertices
  pub graph_ends : Ends graph
  graph_ends =
      record {
        paired =
            omega (
              arith,
              length-append own_s (own_t ++ child_s),
              length-append own_t child_s,
              length-append own_t (own_s ++ child_t),
              length-append own_s child_t,
              joined_paired row_s row_t row_paired (upto k),
            );
        sources_low = λ u v e. (link_low (edge_link u v e)).0;
        targets_low = λ u v e. (link_low (edge_link u v e)).1;
      }

  -- along a path the name stays, or the level falls
  abbrev lev : ℕ → ℕ
  lev a = get_or levels (place_of groups a) 0

  abbrev Sinks : ℕ → ℕ → Type 0
  Sinks u v = (name u ≡ name v) ⊎ (lev (name v) < lev (name u))

  sinks_on : (u w v : ℕ) → Sinks u w → Sinks w v → Sinks u v
  sinks_on u w v (inl a) (inl b) = inl (a ∙ b)
  sinks_on u w v (inl a) (inr b) = inr (rw a b)
  sinks_on u w v (inr a) (inl b) = inr (rw (← b) a)
  sinks_on u w v (inr a) (inr b) = inr (omega arith)

  link_sinks : {u v : ℕ} → Link u v → Sinks u v
  link_sinks (own v h) = inl (sym (S.name_own v h))
  link_sinks (back v h) = inl (S.name_own v h)
  link_sinks (down p q h i) =
      let j : q < k = child_in S p q h i in
      inr (rw ((group_name S p h).1, (group_name S q j).1, place_of_name S p h, place_of_name S q j) (levels_fall S p q h i))

  path_sinks : {u v : ℕ} → Reaches graph u v → Sinks u v
  path_sinks stay = inl refl
  path_sinks (step {u = u} {w = w} {v = v} e r) = sinks_on u w v (link_sinks (edge_link u w e)) (path_sinks r)

  -- so two vertices are in one group exactly where they have one name
  group_name_same : (u v : ℕ) → OneGroup graph u v → name u ≡ name v
  group_name_same u v m = at (path_sinks m.0) (path_sinks m.1)
    where
      at : Sinks u v → Sinks v u → name u ≡ name v
      at (inl a) b = a
      at (inr a) (inl b) = sym b
      at (inr a) (inr b) = absurd (omega arith)

  name_same_path : (u v : ℕ) → u < n → v < n → name u ≡ name v → Reaches graph u v
  name_same_path u v h j e = let on : Reaches graph (name v) v = step (back_edge v j) stay in step (own_edge u h) (rw (← e) at on)

  name_is : (v : ℕ) → v < n → name_of graph v ≡ name v
  name_is v h =
      let own : name v ≡ name (name v) = sym (S.name_own v h) in
      let low : name_of graph v < n = Names.name_low graph graph_ends v h in
      omega (
        arith,
        Names.name_smallest graph graph_ends v (name v) (name_in S v h)
            (name_same_path v (name v) h (name_in S v h) own, name_same_path (name v) v (name_in S v h) h (sym own)),
        group_name_same v (name_of graph v) (Names.name_group graph graph_ends v h),
        S.name_low (name_of graph v) low,
      )

  names_made : names_of graph ≡ names
  unfolding names_of
  names_made = table_is (name_of graph) names n 0 refl name_is

  -- an edge between two names is one to a child
  link_child :
      (p q : ℕ) → p < k → q < k → {s t : ℕ} → Link s t → name s ≡ name_at p → name t ≡ name_at q → (name_at p ≡ name_at q → ⊥) → child_of children p q ≡ true
  link_child p q h j (own v l) a b apart = absurd (apart (sym a ∙ sym (S.name_own v l) ∙ b))
  link_child p q h j (back v l) a b apart = absurd (apart (sym a ∙ S.name_own v l ∙ b))
  link_child p q h j (down x y l i) a b apart =
      let z : y < k = child_in S x y l i in
      let ex : x ≡ p = place_one S x p l h (sym (group_name S x l).1 ∙ a) in
      let ey : y ≡ q = place_one S y q z j (sym (group_name S y z).1 ∙ b) in
      rw (ex, ey) at i

  child_listed : (p q : ℕ) → p < k → q < k → is_child graph names (name_at p) (name_at q) ≡ true → child_of children p q ≡ true
  child_listed p q h j c =
      let (apart, s, t, e, es, et) = child_to graph names (name_at p) (name_at q) c in
      link_child p q h j (edge_link s t e) es et apart

  listed_child : (p q : ℕ) → p < k → child_of children p q ≡ true → is_child graph names (name_at p) (name_at q) ≡ true
  listed_child p q h i =
      let j : q < k = child_in S p q h i in
      child_from graph names (name_at p) (name_at q)
      (λ e. omega (arith, levels_fall S p q h i, ap (λ x. get_or levels x 0) (place_one S p q h j e)))
      (down_edge p q h i) (group_name S p h).1 (group_name S q j).1

  row_made : (p : ℕ) → p < k → those (λ q. is_child graph names (name_at p) (name_at q)) (upto (length groups)) ≡ get_or children p []
  row_made p h =
      rises_unique (those test all) (get_or children p []) (rises_those test all (rises_upto (length groups))) (children_rise S p h)
      (λ q i. let t = those_pass test q all i in child_listed p q h (omega (arith, upto_low (length groups) q t.1, S.children_long)) t.0)
      (λ q i. those_keep test q all (listed_child p q h i) (in_upto (length groups) q (omega (arith, child_in S p q h i, S.children_long))))
    where
      test : ℕ → Bool
      test q = is_child graph names (name_at p) (name_at q)

      all : List ℕ
      all = upto (length groups)

  rows_made : children_of graph names groups ≡ children
  unfolding children_of
  rows_made =
      let f : ℕ → List ℕ = λ a. those (λ q. is_child graph names a (name_at q)) (upto (length groups)) in
      ext_get_or [] (map f groups) children (length-map groups f ∙ sym S.children_long)
      (λ p h. let l : p < length groups = omega (arith, length-map groups f) in get_d_mapped f groups p 0 [] l ∙ row_made p (omega (arith, S.children_long)))

  groups_made : group_list (names_of graph) ≡ groups
  groups_made = ap group_list names_made ∙ sym S.groups_are_lem

  children_made : children_of graph (names_of graph) (group_list (names_of graph)) ≡ children
  children_made = ap₂ (children_of graph) names_made groups_made ∙ rows_made

  -- the computed levels meet the same equation
  levels_made : levels_of children ≡ levels
  levels_made =
      let met : Levels children (λ p. get_or (levels_of children) p 0) =
      subst (λ (c : List (List ℕ)). Levels c (λ p. get_or (levels_of c) p 0)) children_made (groups_sound graph graph_ends).level_is in
      let long : length (levels_of children) ≡ k = levels_long children in
      ext_get_or 0 (levels_of children) levels (long ∙ sym S.levels_long)
      (λ p h. level_unique children (child_in S) (λ q. get_or (levels_of children) q 0) (λ q. get_or levels q 0) met S.level_is
      (suc (get_or (levels_of children) p 0)) p (omega (arith, long)) (omega arith))

  -- so the graph yields what was given
  pub condense_made : (condense graph ≡ record { names = names; groups = groups; children = children }) × (levels_of children ≡ levels)
  unfolding condense
  condense_made = ((λ i. record { names = names_made i; groups = groups_made i; children = children_made i }), levels_made)
