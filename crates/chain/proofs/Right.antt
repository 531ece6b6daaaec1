-- In every graph that yields an index, the chain of the index is the chain of the graph, where there is a path. A group's children are its child groups, and its paths
-- the graph's; the lowest place among children has the lowest name, and no vertex of a group is below its name.
use mathlib.Core.Bool.{true}
use mathlib.Core.Logic.{◌↔◌}
use mathlib.Core.Path.{◌≡◌, refl, ap, subst, ◌∙◌}
use mathlib.Core.List.{List, []}
use Prim.Native.Nat.{ℕ, zero, suc, ◌≤◌, ◌<◌}
use native.Mathlib.Decide.{ℕ_discrete}
use native.Mathlib.Omega.{arith}
use lib.ListN.{length, get_or}
use borrow.Author.Tests.{eq-eqb, ne_eqb}
use Rattle.lineage.specs.Lists.{among}
use Rattle.lineage.specs.Graph.{Graph, Reaches, place_of, name_of, condense}
use Rattle.lineage.specs.Index.{Index, index_by, index_of, Made}
use Rattle.lineage.specs.Question.{place_in}
use Rattle.laws.specs.Leads.{stay, step, Down, OneGroup}
use Rattle.laws.specs.Rising.{Rises}
use Rattle.laws.specs.Sound.{SoundGroups}
use Rattle.laws.proofs.Names.{group_on, name_at_lem}
use Rattle.laws.proofs.Rising.{rises_next, first_of_lem}
use Rattle.laws.proofs.Grouped.{child_in, children_rise, levels_fall, leads_exactly, groups_rise, group_name, place_low, place_of_name, name_of_place}
use Rattle.laws.proofs.Sound.{sound_exactly, made_long, made_groups, made_paths}
use Rattle.laws_answers.proofs.Built.{reached_low}
use Rattle.laws_same.specs.Same.{ChildGroup}
use Rattle.laws_same.proofs.Children.{made_children}
use Rattle.chain_steps.specs.Chain.{leads_to, lowest_to, steps_by, chain_from, chain_of}
use Rattle.chain.specs.Right.{Next, Chain, arrived, onward}

-- in a rising list a later number is not below an earlier one
rises_under : (xs : List ℕ) → Rises xs → (i j : ℕ) → i ≤ j → j < length xs → get_or xs i 0 ≤ get_or xs j 0
rises_under xs r i zero h l = omega (arith, ap (λ (k : ℕ). get_or xs k 0) (zeroed i h))
  where
    zeroed : (i : ℕ) → i ≤ 0 → i ≡ 0
    zeroed i h = omega arith
rises_under xs r i (suc j) h l = at (ℕ_discrete i (suc j)) (rises_under xs r i j)
  where
    at : Dec (i ≡ suc j) → (i ≤ j → j < length xs → get_or xs i 0 ≤ get_or xs j 0) → get_or xs i 0 ≤ get_or xs (suc j) 0
    at (yes e) ih = omega (arith, ap (λ (k : ℕ). get_or xs k 0) e)
    at (no ne) ih = omega (arith, ih (omega arith) (omega arith), rises_next xs r j l)

-- the names of an index are those of the graph
made_name : {I : Index} (M : Made I) (u : ℕ) → u < length I.names → get_or I.names u 0 ≡ name_of M.graph u
unfolding index_of index_by condense
made_name M u h =
    subst (λ (J : Index). get_or J.names u 0 ≡ name_of M.graph u) M.yields (name_at_lem M.graph M.ends u (omega (arith, made_long M)))

module _ {I : Index} (M : Made I) where
  abbrev G : Graph
  G = M.graph

  S : SoundGroups I.names I.groups I.levels I.children
  S = ((sound_exactly I).1 M).condensed

  abbrev name : ℕ → ℕ
  name p = get_or I.groups p 0

  name_low : (p : ℕ) → p < length I.children → name p < length I.names
  name_low p h = (group_name S p h).0

  -- the place of a name
  named_place : (p : ℕ) → p < length I.children → place_in I (name p) ≡ p
  named_place p h = ap (place_of I.groups) (group_name S p h).1 ∙ place_of_name S p h

  -- the lowest of the names
  names_rise : (p q : ℕ) → p ≤ q → q < length I.children → name p ≤ name q
  names_rise p q h l = rises_under I.groups (rw S.groups_are_lem (groups_rise I.names)) p q h (omega (arith, S.children_long))

  module _ (v : ℕ) (hv : v < length I.names) where
    abbrev t : ℕ
    t = place_in I v

    -- a vertex reaches v exactly where its group's place leads to the target
    paths : (c : ℕ) → c < length I.names → Reaches G c v ↔ Down I.children (place_in I c) t
    paths c hc = made_paths M c v hc hv

    place_paths : (p : ℕ) → p < length I.children → Reaches G (name p) v ↔ Down I.children p t
    place_paths p h = subst (λ (x : ℕ). Reaches G (name p) v ↔ Down I.children x t) (named_place p h) (paths (name p) (name_low p h))

    -- the target is v's own group
    own_group : (p : ℕ) → p < length I.children → p ≡ t → OneGroup G (name p) v
    own_group p h e = (made_groups M (name p) v (name_low p h) hv).0 ((group_name S p h).1 ∙ ap name e ∙ name_of_place S v hv)

    -- a child group of p's, by any of its vertices
    module _ (p : ℕ) (h : p < length I.children) (c : ℕ) (C : ChildGroup G (name p) c) where
      child_vertex : c < length I.names
      child_vertex =
          omega (arith, made_long M, reached_low M.ends (M.ends.targets_low C.s C.t C.edge) C.into.1)

      child_place : place_in I c < length I.children
      child_place = place_low S c child_vertex

      name_group : OneGroup G (name (place_in I c)) c
      name_group =
          (made_groups M (name (place_in I c)) c (name_low (place_in I c) child_place) child_vertex).0 ((group_name S (place_in I c) child_place).1 ∙ name_of_place S c child_vertex)

      child_row : among (place_in I c) (get_or I.children p []) ≡ true
      child_row =
          (made_children M p (place_in I c) h child_place).1 (record {
            apart = λ g. C.apart (group_on G M.ends g name_group);
            s = C.s;
            t = C.t;
            edge = C.edge;
            from = C.from;
            into = group_on G M.ends name_group C.into;
          })

    -- the lowest child that reaches the target comes next
    module _ (p : ℕ) (h : p < length I.children) (q : ℕ) (i : among q (get_or I.children p []) ≡ true) (d : Down I.children q t)
        (least : (r : ℕ) → among r (get_or I.children p []) ≡ true → Down I.children r t → q ≤ r)
      where
        next : Next G v (name p) (name q)
        next = record {
          child = (made_children M p q h (child_in S p q h i)).0 i;
          reaches = (place_paths q (child_in S p q h i)).1 d;
          lowest = λ c C r.
              let hc = child_vertex p h c C in
              let x : ℕ = place_in I c in
              omega (
                arith,
                names_rise q x (least x (child_row p h c C) ((paths c hc).0 r)) (child_place p h c C),
                name_of_place S c hc,
                S.name_low c hc,
              );
        }

    -- the lowest child that reaches the target: any other that does is not below it
    lowest_one :
        (p : ℕ) → p < length I.children → (r : ℕ) → among r (get_or I.children p []) ≡ true → Down I.children r t
        → (leads_to I t (lowest_to I t p) ≡ true) × (among (lowest_to I t p) (get_or I.children p []) ≡ true) × (lowest_to I t p ≤ r)
    unfolding lowest_to leads_to
    lowest_one p h r i d =
        first_of_lem (leads_to I t) (get_or I.children p []) (length I.children) r (children_rise S p h) i ((leads_exactly S r t (child_in S p r h i)).1 d)

    -- there is one, from a place other than the target that leads to it
    lowest_child :
        (p : ℕ) → p < length I.children → (p ≡ t → ⊥) → Down I.children p t
        → (among (lowest_to I t p) (get_or I.children p []) ≡ true) × Down I.children (lowest_to I t p) t
    unfolding leads_to
    lowest_child p h apart stay = absurd (apart refl)
    lowest_child p h apart (step {q = q} i d) =
        let (l, j, least) = lowest_one p h q i d in
        (j, (leads_exactly S (lowest_to I t p) t (child_in S p (lowest_to I t p) h j)).0 l)

    chain_down : (f p : ℕ) → p < length I.children → Down I.children p t → get_or I.levels p 0 < f → Chain G v (name p) (chain_from I t f p)
    unfolding chain_from steps_by
    chain_down zero p h d l = absurd (omega arith)
    chain_down (suc f) p h d l = at (ℕ_discrete p t) (chain_down f (lowest_to I t p))
      where
        at :
            Dec (p ≡ t)
            → (lowest_to I t p < length I.children → Down I.children (lowest_to I t p) t → get_or I.levels (lowest_to I t p) 0 < f
            → Chain G v (name (lowest_to I t p)) (chain_from I t f (lowest_to I t p)))
            → Chain G v (name p) (chain_from I t (suc f) p)
        at (yes e) ih = rw (eq-eqb p t e) (arrived (own_group p h e))
        at (no ne) ih =
            let q : ℕ = lowest_to I t p in
            let (i, e) = lowest_child p h ne d in
            rw (ne_eqb p t ne)
            (onward (next p h q i e (λ r j k. (lowest_one p h r j k).2)) (ih (child_in S p q h i) e (omega (arith, levels_fall S p q h i))))

    -- so from the name of a vertex that reaches v
    module _ (u : ℕ) (hu : u < length I.names) where
      pub chain_made : Reaches G u v → Chain G v (name_of G u) (chain_of I u v)
      unfolding chain_of
      chain_made r =
          subst (λ (a : ℕ). Chain G v a (chain_of I u v)) (name_of_place S u hu ∙ made_name M u hu)
          (chain_down (suc (get_or I.levels (place_in I u) 0)) (place_in I u) (place_low S u hu) ((made_paths M u v hu hv).0 r) (omega arith))
