-- Where each vertex has the place of its group's name, children by place are the children of lineage: a name and its place determine each other, so an edge
-- leads between two places exactly where it leads between their names.
use mathlib.Core.Bool.{true}
use mathlib.Core.Path.{◌≡◌, sym, ap, ◌∙◌}
use mathlib.Core.List.{List, []}
use Prim.Native.Nat.{ℕ, ◌<◌}
use native.Mathlib.Omega.{arith}
use lib.ListN.{length, get_or}
use Rattle.lineage.specs.Graph.{Graph, Ends, names_of, group_list, place_of, is_child, children_of, levels_of}
use Rattle.laws.specs.Sound.{SoundGroups}
use Rattle.laws.proofs.Edges.{child_to, child_from}
use Rattle.laws.proofs.Names.{names_long}
use Rattle.laws.proofs.Grouped.{name_of_place, place_of_name}
use Rattle.laws.proofs.Condensed.{children_long, children_at_lem, groups_sound}
use Rattle.build_children.specs.Places.{child_places}
use Rattle.build_children.proofs.Rows.{those_upto}

module _ (G : Graph) (ends : Ends G) (place : List ℕ) where
  abbrev names : List ℕ
  names = names_of G

  abbrev groups : List ℕ
  groups = group_list names

  abbrev children : List (List ℕ)
  children = children_of G names groups

  abbrev k : ℕ
  k = length groups

  abbrev name_at : ℕ → ℕ
  name_at p = get_or groups p 0

  sound : SoundGroups names groups (levels_of children) children
  sound = groups_sound G ends

  -- the name at a place has that place
  place_name : (p : ℕ) → p < k → place_of groups (name_at p) ≡ p
  place_name p h = place_of_name sound p (omega (arith, children_long G ends))

  module _ (places : (v : ℕ) → v < G.n → get_or place v 0 ≡ place_of groups (get_or names v 0)) where
    -- a vertex with a place has the name there, and the other way round
    name_at_lem : (v p : ℕ) → v < G.n → get_or place v 0 ≡ p → get_or names v 0 ≡ name_at p
    name_at_lem v p h e = sym (name_of_place sound v (omega (arith, names_long G ends))) ∙ ap name_at (sym (places v h) ∙ e)

    place_at : (v p : ℕ) → v < G.n → p < k → get_or names v 0 ≡ name_at p → get_or place v 0 ≡ p
    place_at v p h l e = places v h ∙ ap (place_of groups) e ∙ place_name p l

    -- a child by place is a child by name, and the other way round
    module _ (p q : ℕ) (hp : p < k) (hq : q < k) where
      by_name : is_child G place p q ≡ true → is_child G names (name_at p) (name_at q) ≡ true
      by_name c =
          let (apart, s, t, e, es, et) = child_to G place p q c in
          child_from G names (name_at p) (name_at q) (λ z. apart (sym (place_name p hp) ∙ ap (place_of groups) z ∙ place_name q hq)) e
          (name_at_lem s p (ends.sources_low s t e) es) (name_at_lem t q (ends.targets_low s t e) et)

      by_place : is_child G names (name_at p) (name_at q) ≡ true → is_child G place p q ≡ true
      by_place c =
          let (apart, s, t, e, es, et) = child_to G names (name_at p) (name_at q) c in
          child_from G place p q (λ z. apart (ap name_at z)) e
          (place_at s p (ends.sources_low s t e) hp es) (place_at t q (ends.targets_low s t e) hq et)

    -- the row of children of each place
    pub children_are : (p : ℕ) → p < k → child_places G place k p ≡ get_or children p []
    children_are p h =
        those_upto (is_child G place p) (λ q. is_child G names (name_at p) (name_at q)) k (λ q j. by_name p q h j) (λ q j. by_place p q h j)
        ∙ sym (children_at_lem G ends p h)
