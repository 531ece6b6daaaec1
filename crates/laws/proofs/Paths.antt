-- A path leads from u to v exactly where a path down children leads from u's group to v's: an edge stays in its group or leads into a child, and
-- a group reaches its children, each vertex of a group reaching every other.
use mathlib.Core.Bool.{true}
use mathlib.Core.Logic.{◌↔◌}
use mathlib.Core.Path.{◌≡◌, refl, sym, ap, subst, ◌∙◌}
use mathlib.Core.List.{List}
use Prim.Native.Nat.{ℕ, ◌<◌}
use native.Mathlib.Decide.{ℕ_discrete}
use native.Mathlib.Omega.{arith}
use lib.ListN.{length, get_or}
use Rattle.lineage.specs.Lists.{upto}
use Rattle.lineage.specs.Graph.{Graph, Edge, Ends, Reaches, stay as here, step as go, names_of, group_list, place_of, is_child, children_of}
use Rattle.lineage.specs.Sound.{child_of}
use Rattle.laws.specs.Leads.{stay, step, Down, OneGroup}
use Rattle.laws.proofs.Lists.{those_keep, in_upto}
use Rattle.laws.proofs.Edges.{child_from}
use Rattle.laws.proofs.Reaches.{reaches_on}
use Rattle.laws.proofs.Names.{group_turn, group_on, name_group, name_one, names_long, name_at_lem}
use Rattle.laws.proofs.Grouped.{place_low, name_of_place, child_in}
use Rattle.laws.proofs.Condensed.{children_long, children_at_lem, child_path, groups_sound}

module _ (G : Graph) (ends : Ends G) where
  abbrev names : List ℕ
  names = names_of G

  abbrev groups : List ℕ
  groups = group_list names

  abbrev children : List (List ℕ)
  children = children_of G names groups

  -- the place of a vertex's group
  abbrev place : ℕ → ℕ
  place u = place_of groups (get_or names u 0)

  vertex : {u : ℕ} → u < G.n → u < length names
  vertex h = omega (arith, names_long G ends)

  place_in_lem : (u : ℕ) → u < G.n → place u < length groups
  place_in_lem u h = omega (arith, place_low (groups_sound G ends) u (vertex h), children_long G ends)

  place_name : (u : ℕ) → u < G.n → get_or groups (place u) 0 ≡ get_or names u 0
  place_name u h = name_of_place (groups_sound G ends) u (vertex h)

  -- a vertex and the name at its group's place
  at_place : (u : ℕ) → u < G.n → OneGroup G u (get_or groups (place u) 0)
  at_place u h = rw (place_name u h, name_at_lem G ends u h) (name_group G ends u h)

  -- two vertices have one place exactly where they are in one group
  pub places_exactly : (u v : ℕ) → u < G.n → v < G.n → (place u ≡ place v) ↔ OneGroup G u v
  places_exactly u v hu hv = (
    λ e. group_on G ends (at_place u hu) (group_turn G ends (subst (λ p. OneGroup G v (get_or groups p 0)) (sym e) (at_place v hv))),
    λ m. ap (place_of groups) (name_at_lem G ends u hu ∙ (name_one G ends u v hu hv).1 m ∙ sym (name_at_lem G ends v hv)),
  )

  -- an edge between groups makes the one a child of the other
  edge_child : (u w : ℕ) → Edge G.sources G.targets u w → (get_or names u 0 ≡ get_or names w 0 → ⊥) → child_of children (place u) (place w) ≡ true
  edge_child u w e apart =
      let hu : u < G.n = ends.sources_low u w e in
      let hw : w < G.n = ends.targets_low u w e in
      rw (children_at_lem G ends (place u) (place_in_lem u hu))
      (those_keep (λ q. is_child G names (get_or groups (place u) 0) (get_or groups q 0)) (place w) (upto (length groups))
      (rw (place_name u hu, place_name w hw) (child_from G names (get_or names u 0) (get_or names w 0) apart e refl refl))
      (in_upto (length groups) (place w) (place_in_lem w hw)))

  path_down : {u v : ℕ} → Reaches G u v → Down children (place u) (place v)
  path_down here = stay
  path_down (go {u = u} {w = w} {v = v} e r) = at (ℕ_discrete (get_or names u 0) (get_or names w 0)) (path_down r)
    where
      at : Dec (get_or names u 0 ≡ get_or names w 0) → Down children (place w) (place v) → Down children (place u) (place v)
      at (yes same) d = rw same d
      at (no apart) d = step (edge_child u w e apart) d

  down_path : {p q : ℕ} → p < length groups → Down children p q → Reaches G (get_or groups p 0) (get_or groups q 0)
  down_path h stay = here
  down_path h (step {p = p} {q = x} i d) =
      let j : x < length groups = omega (arith, children_long G ends, child_in (groups_sound G ends) p x (omega (arith, children_long G ends)) i) in
      reaches_on (child_path G ends p x h i) (down_path j d)

  -- a path between vertices is a path down children between their groups
  pub paths_exactly : (u v : ℕ) → u < G.n → v < G.n → Reaches G u v ↔ Down children (place u) (place v)
  paths_exactly u v hu hv = (
    path_down,
    λ d. reaches_on (at_place u hu).0 (reaches_on (down_path (place_in_lem u hu) d) (at_place v hv).1),
  )
