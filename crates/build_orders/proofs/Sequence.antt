-- Under an order of the vertices the groups' places are an order of the places: all of them stand there, and they are as many as there are names, since an order
-- holds as many names as 0, .. , n - 1 does.
use mathlib.Core.Bool.{Bool, true, false, cond}
use mathlib.Core.Path.{◌≡◌, refl, sym, ap, ◌∙◌}
use mathlib.Core.List.{List, [], ◌∷◌}
use Prim.Native.Nat.{ℕ}
use native.Mathlib.Omega.{arith}
use lib.ListN.{length, get_or, length-map}
use Rattle.lineage.specs.Lists.{upto, among, those}
use Rattle.lineage.specs.Graph.{group_list, place_of}
use Rattle.lineage.specs.Labels.{Order, in_order}
use Rattle.laws.proofs.Lists.{in_upto, those_yes, those_no, those_pass, those_keep}
use Rattle.laws.proofs.Positions.{in_get_d}
use Rattle.laws.proofs.Rising.{rises_upto, rises_those, rises_distinct, rises_unique}
use Rattle.laws.proofs.Grouped.{listed_name, groups_rise}
use Rattle.laws.proofs.Orders.{places_all}
use Rattle.build_rows.proofs.Orders.{total, order_total}

-- how many pass, as a sum
total_those : (p : ℕ → Bool) (xs : List ℕ) → total (λ x. cond (p x) 1 0) xs ≡ length (those p xs)
total_those p [] = refl
total_those p (x ∷ xs) = at (p x) refl (total_those p xs)
  where
    at : (t : Bool) → p x ≡ t → total (λ y. cond (p y) 1 0) xs ≡ length (those p xs) → total (λ y. cond (p y) 1 0) (x ∷ xs) ≡ length (those p (x ∷ xs))
    at true e ih = rw (those_yes p x xs e, e) (omega arith)
    at false e ih = rw (those_no p x xs e, e) (omega arith)

-- an order holds as many that pass as 0, .. , n - 1
those_order : (p : ℕ → Bool) (n : ℕ) (order : List ℕ) → Order n order → length (those p order) ≡ length (those p (upto n))
those_order p n order o = sym (total_those p order) ∙ order_total (λ x. cond (p x) 1 0) n order o ∙ total_those p (upto n)

module _ (names order : List ℕ) (o : Order (length names) order) where
  abbrev groups : List ℕ
  groups = group_list names

  -- of the vertices in turn those that name a group are the group list
  names_are : those (λ v. among v groups) (upto (length names)) ≡ groups
  names_are =
      rises_unique (those (λ v. among v groups) (upto (length names))) groups
      (rises_those (λ v. among v groups) (upto (length names)) (rises_upto (length names))) (groups_rise names)
      (λ v i. (those_pass (λ x. among x groups) v (upto (length names)) i).0)
      (λ v i. those_keep (λ x. among x groups) v (upto (length names)) i (in_upto (length names) v (listed_name names v i).0))

  pub places_order : Order (length groups) (in_order order groups)
  unfolding in_order
  places_order = record {
    long = length-map (those (λ v. among v groups) order) (place_of groups) ∙ those_order (λ v. among v groups) (length names) order o ∙ ap length names_are;
    all = λ p h. places_all groups order (rises_distinct groups (groups_rise names)) p h (o.all (get_or groups p 0) (listed_name names (get_or groups p 0) (in_get_d groups p h)).0);
  }
