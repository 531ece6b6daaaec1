-- Orders and places. The places of an order are all places, each of them; and any sequence of all places is that of some order: the names in that
-- sequence, then all vertices that name no group.
use mathlib.Core.Bool.{Bool, true, false, not}
use mathlib.Core.Path.{◌≡◌, refl, ap, ap₂, ◌∙◌}
use mathlib.Core.List.{List, [], ◌∷◌, ◌++◌, map, append-nil, map-map}
use Prim.Native.Nat.{ℕ, ◌<◌}
use native.Mathlib.Omega.{arith}
use lib.ListN.{length, get_or, length-map, length-append}
use borrow.Author.Tests.{not-true}
use Rattle.lineage.specs.Lists.{upto, among, those}
use Rattle.lineage.specs.Graph.{place_of}
use Rattle.lineage.specs.Labels.{Order, in_order}
use Rattle.laws.proofs.Lists.{in_left, in_right, those_append, those_pass, those_keep, those_all, those_none, map_same, those_split, in_upto, length_upto, in_map, of_map}
use Rattle.laws.proofs.Positions.{position_low, at_position, in_get_d}
use Rattle.laws.specs.Rising.{Distinct, Rises}
use Rattle.laws.proofs.Rising.{position_get_d, rises_upto, rises_those, rises_distinct, rises_unique}

module _ (groups : List ℕ) where
  -- the vertex names a group
  abbrev is_name : ℕ → Bool
  is_name v = among v groups

  -- the places of an order are places
  pub places_low : (order : List ℕ) (p : ℕ) → among p (in_order order groups) ≡ true → p < length groups
  unfolding in_order
  places_low order p i =
      let (v, j, e) = of_map (place_of groups) p (those is_name order) i in
      rw e (position_low v groups (those_pass is_name v order j).0)

  -- and all of them
  pub places_all :
      (order : List ℕ) → Distinct groups → (p : ℕ) → p < length groups → among (get_or groups p 0) order ≡ true
      → among p (in_order order groups) ≡ true
  unfolding in_order
  places_all order once p h i =
      rw (position_get_d groups once p h) at
      (in_map (place_of groups) (get_or groups p 0) (those is_name order) (those_keep is_name (get_or groups p 0) order (in_get_d groups p h) i))

  module _
      (n : ℕ) (places : List ℕ) (rise : Rises groups)
      (group-low : (v : ℕ) → among v groups ≡ true → v < n)
      (low : (p : ℕ) → among p places ≡ true → p < length groups)
      (all : (p : ℕ) → p < length groups → among p places ≡ true)
      (full : length places ≡ length groups)
    where
      abbrev name_at : ℕ → ℕ
      name_at p = get_or groups p 0

      abbrev others : List ℕ
      others = those (λ v. not (is_name v)) (upto n)

      abbrev order : List ℕ
      order = map name_at places ++ others

      same : (xs : List ℕ) → map (λ p. p) xs ≡ xs
      same [] = refl
      same (x ∷ xs) = ap (x ∷◌) (same xs)

      -- the order's places are the sequence
      its_places : in_order order groups ≡ places
      unfolding in_order
      its_places = ap (map (place_of groups)) names_kept ∙ map-map (place_of groups) name_at places ∙ back
        where
          named : (v : ℕ) → among v (map name_at places) ≡ true → is_name v ≡ true
          named v i = let (p, j, e) = of_map name_at v places i in rw e (in_get_d groups p (low p j))

          names_kept : those is_name order ≡ map name_at places
          names_kept =
              those_append is_name (map name_at places) others
              ∙ ap₂ ◌++◌ (those_all is_name (map name_at places) named)
              (those_none is_name others (λ v i. not-true (is_name v) (those_pass (λ x. not (is_name x)) v (upto n) i).0))
              ∙ append-nil (map name_at places)

          back : map (λ p. place_of groups (name_at p)) places ≡ places
          back =
              map_same (λ p. place_of groups (name_at p)) (λ p. p) places (λ p i. position_get_d groups (rises_distinct groups rise) p (low p i))
              ∙ same places

      -- the names among all vertices are the group list
      names_are : those is_name (upto n) ≡ groups
      names_are =
          rises_unique (those is_name (upto n)) groups (rises_those is_name (upto n) (rises_upto n)) rise
          (λ v i. (those_pass is_name v (upto n) i).0)
          (λ v i. those_keep is_name v (upto n) i (in_upto n v (group-low v i)))

      is_order : Order n order
      is_order =
          record {
            long =
                omega (
                  arith,
                  length-append (map name_at places) others,
                  length-map places name_at,
                  full,
                  ap length names_are,
                  those_split is_name (upto n),
                  length_upto n,
                );
            all = λ v h. at v h (is_name v) refl;
          }
        where
          at : (v : ℕ) → v < n → (t : Bool) → is_name v ≡ t → among v order ≡ true
          at v h true e =
              in_left v (map name_at places) others
              (rw (at_position v groups e) at (in_map name_at (place_of groups v) places (all (place_of groups v) (position_low v groups e))))
          at v h false e = in_right v (map name_at places) others (those_keep (λ x. not (is_name x)) v (upto n) (ap not e) (in_upto n v h))

      -- so any sequence of all places is that of some order
      pub order_for : (o : List ℕ) × Order n o × (in_order o groups ≡ places)
      order_for = (order, is_order, its_places)
