-- What names, group list, children and levels that pass the tests give. The group list is all names, rising, so a place and its name determine
-- each other; rows of children rise, so no child stands twice; and the level falls along children, so none is its own and every path down
-- children is found within the level.
use mathlib.Core.Bool.{true, false}
use mathlib.Core.Logic.{◌↔◌}
use mathlib.Core.Path.{◌≡◌, sym, ap, subst, ◌∙◌}
use mathlib.Core.List.{List, []}
use Prim.Native.Nat.{ℕ, ◌<◌}
use native.Mathlib.Omega.{arith}
use lib.Dec.{eqb}
use lib.ListN.{length, get_or}
use borrow.Author.Tests.{eqb-true, eq-eqb}
use Rattle.lineage.specs.Lists.{upto, among}
use Rattle.lineage.specs.Graph.{group_list, place_of, leads}
use Rattle.lineage.specs.Sound.{child_of}
use Rattle.laws.specs.Leads.{Down}
use Rattle.laws.specs.Sound.{SoundGroups}
use Rattle.laws.proofs.Tests.{is_false}
use Rattle.laws.proofs.Lists.{those_pass, those_keep, in_upto, upto_low}
use Rattle.laws.proofs.Positions.{position_low, at_position, in_get_d}
use Rattle.laws.specs.Rising.{Distinct, Rises}
use Rattle.laws.proofs.Rising.{position_get_d, rises_upto, rises_those, rises_distinct, next_rises}
use Rattle.laws.proofs.Levels.{Falls, level_falls, leads_bounded}

-- the group list: all that are their own name, rising
module _ (names : List ℕ) where
  pub listed_name : (v : ℕ) → among v (group_list names) ≡ true → (v < length names) × (get_or names v 0 ≡ v)
  unfolding group_list
  listed_name v i =
      let t = those_pass (λ x. eqb (get_or names x 0) x) v (upto (length names)) i in
      (upto_low (length names) v t.1, eqb-true (get_or names v 0) v t.0)

  name_listed : (v : ℕ) → v < length names → get_or names v 0 ≡ v → among v (group_list names) ≡ true
  unfolding group_list
  name_listed v h e = those_keep (λ x. eqb (get_or names x 0) x) v (upto (length names)) (eq-eqb (get_or names v 0) v e) (in_upto (length names) v h)

  pub groups_rise : Rises (group_list names)
  unfolding group_list
  groups_rise = rises_those (λ x. eqb (get_or names x 0) x) (upto (length names)) (rises_upto (length names))

  -- the name at a place has that place
  place_name : (p : ℕ) → p < length (group_list names) → place_of (group_list names) (get_or (group_list names) p 0) ≡ p
  place_name p h = position_get_d (group_list names) (rises_distinct (group_list names) groups_rise) p h

module _ {names groups levels : List ℕ} {children : List (List ℕ)} (S : SoundGroups names groups levels children) where
  -- names and places
  pub name_in : (v : ℕ) → v < length names → get_or names v 0 < length names
  name_in v h = omega (arith, S.name_low v h)

  pub name_group : (v : ℕ) → v < length names → among (get_or names v 0) groups ≡ true
  name_group v h = rw S.groups_are_lem (name_listed names (get_or names v 0) (name_in v h) (S.name_own v h))

  pub group_name : (p : ℕ) → p < length children → (get_or groups p 0 < length names) × (get_or names (get_or groups p 0) 0 ≡ get_or groups p 0)
  group_name p h =
      let l : p < length groups = omega (arith, S.children_long) in
      listed_name names (get_or groups p 0) (subst (λ (gs : List ℕ). among (get_or groups p 0) gs ≡ true) S.groups_are_lem (in_get_d groups p l))

  -- a vertex's group has a place, and that place's name is the vertex's
  pub place_low : (v : ℕ) → v < length names → place_of groups (get_or names v 0) < length children
  place_low v h = omega (arith, S.children_long, position_low (get_or names v 0) groups (name_group v h))

  pub name_of_place : (v : ℕ) → v < length names → get_or groups (place_of groups (get_or names v 0)) 0 ≡ get_or names v 0
  name_of_place v h = at_position (get_or names v 0) groups (name_group v h)

  pub place_of_name : (p : ℕ) → p < length children → place_of groups (get_or groups p 0) ≡ p
  place_of_name p h = let l : p < length groups = omega (arith, S.children_long) in rw S.groups_are_lem (place_name names p (rw S.groups_are_lem at l))

  -- the group list has no name twice
  pub groups_distinct : Distinct groups
  groups_distinct = rises_distinct groups (rw S.groups_are_lem (groups_rise names))

  -- so two places with one name are one
  pub place_one : (p q : ℕ) → p < length children → q < length children → get_or groups p 0 ≡ get_or groups q 0 → p ≡ q
  place_one p q h j e = sym (place_of_name p h) ∙ ap (place_of groups) e ∙ place_of_name q j

  -- children are places, rising and without repeats
  pub child_in : (p q : ℕ) → p < length children → child_of children p q ≡ true → q < length children
  child_in p q h i =
      let row : List ℕ = get_or children p [] in
      rw (at_position q row i) at (S.child_low p (place_of row q) h (position_low q row i))

  pub children_rise : (p : ℕ) → p < length children → Rises (get_or children p [])
  children_rise p h = next_rises (get_or children p []) (λ i l. S.child_rises p i h l)

  pub children_once : (p : ℕ) → p < length children → Distinct (get_or children p [])
  children_once p h = rises_distinct (get_or children p []) (children_rise p h)

  -- the level falls along children, so none is its own
  pub levels_fall : Falls children (λ p. get_or levels p 0)
  levels_fall = level_falls children (λ p. get_or levels p 0) S.level_is

  -- so no group is its own child
  pub child_other : (p : ℕ) → p < length children → child_of children p p ≡ false
  child_other p h = is_false (child_of children p p) (λ i. omega (arith, levels_fall p p h i))

  -- `leads`, bounded by the level, finds every path down children
  pub leads_exactly : (p q : ℕ) → p < length children → (leads children (get_or levels p 0) p q ≡ true) ↔ Down children p q
  leads_exactly p q h = leads_bounded children child_in (λ x. get_or levels x 0) levels_fall (get_or levels p 0) p q h (omega arith)
