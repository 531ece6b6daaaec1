-- The index of a graph under some orders is as document 01 tells it: each sentence is a law of `laws`, or an equation of the definition read at a place.
use mathlib.Core.Bool.{true}
use mathlib.Core.Path.{◌≡◌, refl, sym, ap, subst, ◌∙◌}
use mathlib.Core.List.{List, []}
use Prim.Native.Nat.{ℕ, ◌<◌}
use native.Mathlib.Omega.{arith}
use lib.ListN.{length, get_or, length-map}
use Rattle.lineage.specs.Lists.{upto, among, Every}
use Rattle.lineage.specs.Graph.{Graph, Ends, place_of, is_child, condense}
use Rattle.lineage.specs.Labels.{Order, in_order, forest_of, labels_by, labelling}
use Rattle.lineage.specs.Index.{Index, index_by, index_of}
use Rattle.lineage.specs.Sound.{child_of}
use Rattle.laws.specs.Leads.{OneGroup}
use Rattle.laws.specs.Sound.{SoundGroups}
use Rattle.laws.proofs.Every.{every_at}
use Rattle.laws.proofs.Lists.{those_pass, those_keep, in_upto, upto_low, length_upto, get_d_mapped, table_at}
use Rattle.laws.proofs.Edges.{child_to, child_from}
use Rattle.laws.proofs.Names as Names
use Rattle.laws.proofs.Grouped as Grouped
use Rattle.laws.proofs.Condensed.{children_at_lem}
use Rattle.laws.proofs.Orders.{places_low}
use Rattle.laws.proofs.Traversal.{forest_visits}
use Rattle.laws.proofs.Labelled.{e_is, labelling_sound}
use Rattle.laws.proofs.Sound.{made_sound}
use Rattle.laws_answers.proofs.Built.{built_long}
use Rattle.demands.specs.Grail.{Child, Groups, Labels, Grail}

module _ (G : Graph) (ends : Ends G) (orders : List (List ℕ)) (permuted : Every (Order G.n) orders) where
  abbrev I : Index
  I = index_of G orders

  S : SoundGroups I.names I.groups I.levels I.children
  S = (made_sound G ends orders permuted).condensed

  place : (p : ℕ) → p < length I.groups → p < length I.children
  place p h = omega (arith, S.children_long)

  vertex : (v : ℕ) → v < G.n → v < length I.names
  vertex v h = omega (arith, built_long G ends orders permuted)

  name_at_lem : (v : ℕ) → v < G.n → OneGroup G v (get_or I.names v 0)
  unfolding index_of index_by condense
  name_at_lem v h = rw (Names.name_at_lem G ends v h) (Names.name_group G ends v h)

  -- a child by the test is one by an edge
  child_edge : (p q : ℕ) → p < length I.groups → child_of I.children p q ≡ true → Child G I p q
  unfolding index_of index_by condense
  child_edge p q h i =
      let row = those_pass (λ x. is_child G I.names (get_or I.groups p 0) (get_or I.groups x 0)) q (upto (length I.groups)) (rw (children_at_lem G ends p h) at i) in
      let j : q < length I.groups = upto_low (length I.groups) q row.1 in
      let (apart, s, t, e, es, et) = child_to G I.names (get_or I.groups p 0) (get_or I.groups q 0) row.0 in
      record {
        differ = λ same. apart (ap (λ (x : ℕ). get_or I.groups x 0) same);
        source = s;
        target = t;
        edge = e;
        leaves = ap (place_of I.groups) es ∙ Grouped.place_of_name S p (place p h);
        enters = ap (place_of I.groups) et ∙ Grouped.place_of_name S q (place q j);
      }

  -- and one by an edge is one by the test
  edge_child : {p q : ℕ} → Child G I p q → child_of I.children p q ≡ true
  unfolding index_of index_by condense
  edge_child {p} {q} C =
      let u : ℕ = C.source in
      let w : ℕ = C.target in
      let hu : u < length I.names = vertex u (ends.sources_low u w C.edge) in
      let hw : w < length I.names = vertex w (ends.targets_low u w C.edge) in
      let hp : p < length I.children = omega (arith, C.leaves, Grouped.place_low S u hu) in
      let hq : q < length I.children = omega (arith, C.enters, Grouped.place_low S w hw) in
      let from : get_or I.names u 0 ≡ get_or I.groups p 0 = sym (Grouped.name_of_place S u hu) ∙ ap (λ (x : ℕ). get_or I.groups x 0) C.leaves in
      let into : get_or I.names w 0 ≡ get_or I.groups q 0 = sym (Grouped.name_of_place S w hw) ∙ ap (λ (x : ℕ). get_or I.groups x 0) C.enters in
      rw (children_at_lem G ends p (omega (arith, S.children_long)))
      (those_keep (λ x. is_child G I.names (get_or I.groups p 0) (get_or I.groups x 0)) q (upto (length I.groups))
      (child_from G I.names (get_or I.groups p 0) (get_or I.groups q 0) (λ same. C.differ (Grouped.place_one S p q hp hq same)) C.edge from into)
      (in_upto (length I.groups) q (omega (arith, S.children_long))))

  groups_are_lem : Groups G I
  unfolding index_of index_by condense
  groups_are_lem = record {
    names_long = built_long G ends orders permuted;
    levels_long = S.levels_long ∙ S.children_long;
    children_long = S.children_long;
    name_in = name_at_lem;
    name_smallest = λ v w hv hw m. omega (arith, Names.name_at_lem G ends v hv, Names.name_smallest G ends v w hw m);
    all_names = λ a. (
      (λ i. let (low, own) = Grouped.listed_name I.names a i in (omega (arith, built_long G ends orders permuted), own)),
      λ (low, own). subst (λ (x : ℕ). among x I.groups ≡ true) own (Grouped.name_group S a (vertex a low)),
    );
    names_rise = Grouped.groups_rise I.names;
    child = λ p q h. (child_edge p q h, edge_child);
    children_rise = λ p h. Grouped.children_rise S p (place p h);
    level = λ p h. S.level_is p (place p h);
  }

  -- the labelling under one order
  labels_are_lem : (order : List ℕ) → Order (length I.names) order → Labels I order (labelling I.groups I.children order)
  unfolding labelling labels_by
  labels_are_lem order o =
      let ranked : List ℕ = in_order order I.groups in
      let k : ℕ = length I.groups in
      record {
        forest = forest_of I.children ranked;
        traversal =
            forest_visits I.children ranked (upto k) (λ q i. in_upto k q (places_low I.groups order q i)) (omega (arith, length_upto k, S.children_long));
        by_rank = refl;
        e = λ p h. e_is S order o p (place p h);
        s = λ p h. (labelling_sound S order o).outer_is p (place p h);
        m = λ p h. table_at _ k p 0 h;
      }

  pub grail : Grail G orders I
  unfolding index_of index_by
  grail = record {
    groups = groups_are_lem;
    as_many = length-map orders (labelling I.groups I.children);
    labels = λ j none h.
        rw (get_d_mapped (labelling I.groups I.children) orders j [] none h)
        (labels_are_lem (get_or orders j []) (rw (built_long G ends orders permuted) (every_at (Order G.n) orders j [] permuted h)));
  }
