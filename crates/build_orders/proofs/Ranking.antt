-- Going through an order, the vertices that are their own name are kept, as places: that is how the groups stand in the order.
use mathlib.Core.Bool.{true, false}
use mathlib.Core.Path.{◌≡◌, sym, ap, ◌∙◌}
use mathlib.Core.List.{List, [], ◌∷◌, ◌++◌, map, map-append, append-nil}
use Prim.Native.Nat.{ℕ, ◌+◌, ◌≤◌, ◌<◌}
use native.Mathlib.Omega.{arith}
use lib.Dec.{eqb}
use lib.ListN.{length, get_or, set}
use borrow.Author.Tests.{eq-eqb}
use Rattle.lineage.specs.Lists.{upto, among, those, part}
use Rattle.lineage.specs.Graph.{group_list, place_of}
use Rattle.lineage.specs.Labels.{in_order}
use Rattle.numbers.specs.Regions.{Kept}
use Rattle.laws.proofs.Tests.{is_false}
use Rattle.laws.proofs.Lists.{in_upto, those_append, those_yes, those_no, those_keep}
use Rattle.laws.proofs.Positions.{in_get_d}
use Rattle.laws.proofs.Grouped.{listed_name}
use Rattle.laws.proofs.Parts.{part_length, part_at, part_more}
use Rattle.numbers.proofs.Regions.{read_at, Written, written_none, written_more, written_behind}
use Rattle.build_rows.proofs.Orders.{order_low}
use Rattle.build_orders.specs.Fit.{RankedFit}

-- one vertex more of an order: the name of a group, or not
module _ (order groups : List ℕ) (v : ℕ) where
  kept_names : those (λ x. among x groups) (order ++ (v ∷ [])) ≡ those (λ x. among x groups) order ++ those (λ x. among x groups) (v ∷ [])
  kept_names = those_append (λ x. among x groups) order (v ∷ [])

  in_order_more : among v groups ≡ true → in_order (order ++ (v ∷ [])) groups ≡ in_order order groups ++ (place_of groups v ∷ [])
  unfolding in_order
  in_order_more i =
      ap (map (place_of groups)) (kept_names ∙ ap (those (λ x. among x groups) order ++◌) (those_yes (λ x. among x groups) v [] i))
      ∙ map-append (place_of groups) (those (λ x. among x groups) order) (v ∷ [])

  in_order_past : among v groups ≡ false → in_order (order ++ (v ∷ [])) groups ≡ in_order order groups
  unfolding in_order
  in_order_past i =
      ap (map (place_of groups)) (kept_names ∙ ap (those (λ x. among x groups) order ++◌) (those_no (λ x. among x groups) v [] i) ∙ append-nil (those (λ x. among x groups) order))

-- a vertex that is its own name is in the group list
name_listed : (names : List ℕ) (v : ℕ) → v < length names → get_or names v 0 ≡ v → among v (group_list names) ≡ true
unfolding group_list
name_listed names v h e = those_keep (λ x. eqb (get_or names x 0) x) v (upto (length names)) (eq-eqb (get_or names v 0) v e) (in_upto (length names) v h)

-- j vertices of the order are gone through, and the places of k groups written
pub record Ranking (orders work₀ work : List ℕ) (at n names base j k : ℕ) : Type 0 where
  pub few : k ≤ j
  pub written : Written work₀ work base n k (in_order (part orders at j) (group_list (part work₀ names n)))

pub ranking_none : (orders work : List ℕ) (at n names base : ℕ) → Ranking orders work work at n names base 0 0
unfolding part in_order
ranking_none orders work at n names base = record { few = omega arith; written = written_none work base n }

-- where the name and the place of its group are told
pub record Vertex (orders work : List ℕ) (at names place j : ℕ) : Type 0 where
  pub name_in : names + get_or orders (at + j) 0 < length work
  pub place_in_lem : place + get_or orders (at + j) 0 < length work

module _
    {orders work₀ work : List ℕ} {at n names place base j k : ℕ}
    (f : RankedFit orders work₀ at n names place base) (i : Ranking orders work₀ work at n names base j k) (h : j < n)
  where
    low : get_or orders (at + j) 0 < n
    low = rw (part_at orders at n j h) (order_low n (part orders at n) f.order (get_or (part orders at n) j 0) (in_get_d (part orders at n) j (omega (arith, f.order.long))))

    pub ranking_vertex : Vertex orders work at names place j
    ranking_vertex =
        let long = i.written.kept.long in
        record {
          name_in = omega (arith, low, f.names_there.fits);
          place_in_lem = omega (arith, low, f.place_there.fits);
        }

    name_at_lem : get_or work (names + get_or orders (at + j) 0) 0 ≡ get_or (part work₀ names n) (get_or orders (at + j) 0) 0
    name_at_lem = read_at f.names_there i.written.kept (get_or orders (at + j) 0) low

    one_more : part orders at (j + 1) ≡ part orders at j ++ (get_or orders (at + j) 0 ∷ [])
    one_more = part_more orders at j 0 (omega (arith, f.inside))

    abbrev v : ℕ
    v = get_or orders (at + j) 0

    abbrev groups : List ℕ
    groups = group_list (part work₀ names n)

    -- its place is written
    abbrev work' : List ℕ
    work' = set work (base + k) (get_or work (place + v) 0)

    -- it is its own name: its place is counted
    pub ranking_more : {k' : ℕ} → get_or work (names + v) 0 ≡ v → k' ≡ k + 1 → Ranking orders work₀ work' at n names base (j + 1) k'
    ranking_more e ek =
        let own : get_or (part work₀ names n) v 0 ≡ v = sym name_at_lem ∙ e in
        let place_is : get_or work (place + v) 0 ≡ place_of groups v = read_at f.place_there i.written.kept v low ∙ f.places v low ∙ ap (place_of groups) own in
        let listed : among v groups ≡ true = name_listed (part work₀ names n) v (omega (arith, low, part_length work₀ names n f.names_there.fits)) own in
        rw (ek, place_is) (record {
          few = omega (arith, i.few);
          written = rw (one_more, in_order_more (part orders at j) groups v listed) (written_more (place_of groups v) (omega (arith, i.few)) f.room i.written);
        })

    -- it is not: the next one takes its word
    pub ranking_past : {k' : ℕ} → (get_or work (names + v) 0 ≡ v → ⊥) → k' ≡ k → Ranking orders work₀ work' at n names base (j + 1) k'
    ranking_past ne ek =
        let other : among v groups ≡ false = is_false (among v groups) (λ t. ne (name_at_lem ∙ (listed_name (part work₀ names n) v t).1)) in
        rw ek (record {
          few = omega (arith, i.few);
          written = rw (one_more, in_order_past (part orders at j) groups v other) (written_behind (get_or work (place + v) 0) (omega (arith, i.few)) i.written);
        })

pub ranking_all :
    {orders work₀ work : List ℕ} {at n names base j k : ℕ} → j ≡ n → Ranking orders work₀ work at n names base j k
    → Kept work₀ work base n × ((k ≤ n) × (part work base k ≡ in_order (part orders at n) (group_list (part work₀ names n))))
ranking_all e i = (i.written.kept, (omega (arith, i.few), rw e at i.written.holds))
