-- In every graph that yields an index, the paths over the graph's edges together with added ones are those from group to group, down the index's children and along
-- the added edges. A graph's own path leads down children; and vertices of one group reach each other, so a way along groups can be gone from vertex to vertex.
use mathlib.Core.Bool.{true}
use mathlib.Core.Logic.Iff
use mathlib.Core.Logic.{◌↔◌, inl, inr}
use mathlib.Core.Path.{◌≡◌, refl, sym, ap, subst, ◌∙◌}
use mathlib.Core.List.{List}
use Prim.Native.Nat.{ℕ, ◌<◌}
use native.Mathlib.Omega.{arith}
use lib.ListN.{length, get_or, length-append}
use Rattle.lineage.specs.Graph.{Graph, Edge, Ends, Reaches, stay, step, place_of}
use Rattle.lineage.specs.Index.{Index, Made}
use Rattle.lineage.specs.Question.{place_in}
use Rattle.laws.specs.Leads as leads
use Rattle.laws.specs.Sound.{SoundGroups, Sound}
use Rattle.laws.proofs.Edges.{edge_left, edge_right, edge_split}
use Rattle.laws.proofs.Grouped.{group_name, child_in, place_low, place_of_name, name_of_place}
use Rattle.laws.proofs.Reaches.{reaches_on, reaches_exactly}
use Rattle.laws.proofs.Sound.{sound_exactly, made_long, made_groups, made_paths}
use Rattle.reach_rounds.specs.Over.{groups_with, added_says}
use Rattle.reach_rounds.proofs.Groups.{Step, child, added, edge_step, step_edge, groups_ends}
use Rattle.added.specs.Right.{with_edges}

module _
    {I : Index} (M : Made I) {S T : List ℕ} (paired : length S ≡ length T)
    (low : (a b : ℕ) → Edge S T a b → (a < length I.names) × (b < length I.names))
  where
    abbrev G : Graph
    G = M.graph

    abbrev all : Graph
    all = with_edges G S T

    abbrev D : Graph
    D = groups_with I S T

    Z : Sound I
    Z = (sound_exactly I).1 M

    C : SoundGroups I.names I.groups I.levels I.children
    C = Z.condensed

    -- all edges lead from vertices to vertices
    pub all_ends : Ends all
    all_ends = record {
      paired = omega (arith, length-append G.sources S, length-append G.targets T, M.ends.paired);
      sources_low = λ u v e.
          elim (edge_split G.sources S G.targets T M.ends.paired e) [
            | inl i ↦ M.ends.sources_low u v i
            | inr i ↦ omega (arith, (low u v i).0, made_long M)
          ];
      targets_low = λ u v e.
          elim (edge_split G.sources S G.targets T M.ends.paired e) [
            | inl i ↦ M.ends.targets_low u v i
            | inr i ↦ omega (arith, (low u v i).1, made_long M)
          ];
    }

    -- the graph's own paths are among all
    own_path : {u v : ℕ} → Reaches G u v → Reaches all u v
    own_path stay = stay
    own_path (step e r) = step (edge_left G.sources S G.targets T e) (own_path r)

    -- vertices of one group reach each other
    within : (u v : ℕ) → u < length I.names → v < length I.names → place_in I u ≡ place_in I v → Reaches all u v
    within u v hu hv e =
        own_path ((made_groups M u v hu hv).0 (sym (name_of_place C u hu) ∙ ap (λ (p : ℕ). get_or I.groups p 0) e ∙ name_of_place C v hv)).0

    -- a way from u to some vertex of the group at place q
    record Arrives (u q : ℕ) : Type 0 where
      vertex : ℕ
      below : vertex < length I.names
      placed : place_in I vertex ≡ q
      path : Reaches all u vertex

    one_step : {p q : ℕ} → Step I S T p q → (u : ℕ) → u < length I.names → place_in I u ≡ p → Arrives u q
    one_step (child {p} {q} h i) u hu e =
        let hq = child_in C p q h i in
        let x : ℕ = get_or I.groups q 0 in
        let hx : x < length I.names = (group_name C q hq).0 in
        let at : place_in I x ≡ q = ap (place_of I.groups) (group_name C q hq).1 ∙ place_of_name C q hq in
        let d : leads.Down I.children (place_in I u) (place_in I x) =
        subst (λ (a : ℕ). leads.Down I.children a (place_in I x)) (sym e) (subst (λ (b : ℕ). leads.Down I.children p b) (sym at) (leads.step i leads.stay)) in
        record { vertex = x; below = hx; placed = at; path = own_path ((made_paths M u x hu hx).1 d) }
    one_step (added {a} {b} i) u hu e =
        let l = low a b i in
        record {
          vertex = b;
          below = l.1;
          placed = refl;
          path = reaches_on (within u a hu l.0 e) (step (edge_right G.sources S G.targets T M.ends.paired i) stay);
        }

    from_groups :
        {p q : ℕ} → Reaches D p q → (u : ℕ) → u < length I.names → place_in I u ≡ p → (v : ℕ) → v < length I.names → place_in I v ≡ q → Reaches all u v
    from_groups stay u hu e v hv f = within u v hu hv (e ∙ sym f)
    from_groups (step {u = p} {w = x} i r) u hu e v hv f =
        let A = one_step (edge_step I S T p x i) u hu e in
        reaches_on A.path (from_groups r A.vertex A.below A.placed v hv f)

    -- the other way: each edge leads along groups
    down : {p q : ℕ} → p < length I.children → leads.Down I.children p q → Reaches D p q
    down h leads.stay = stay
    down h (leads.step {p = p} {q = q} i d) = step (step_edge I S T (child h i)) (down (child_in C p q h i) d)

    edge_groups : (u w : ℕ) → Edge all.sources all.targets u w → Reaches D (place_in I u) (place_in I w)
    edge_groups u w e =
        elim (edge_split G.sources S G.targets T M.ends.paired e) [
          | inl i ↦
              let hu : u < length I.names = omega (arith, M.ends.sources_low u w i, made_long M) in
              let hw : w < length I.names = omega (arith, M.ends.targets_low u w i, made_long M) in
              down (place_low C u hu) ((made_paths M u w hu hw).0 (step i stay))
          | inr i ↦ step (step_edge I S T (added i)) stay
        ]

    to_groups : {u v : ℕ} → Reaches all u v → Reaches D (place_in I u) (place_in I v)
    to_groups stay = stay
    to_groups (step {u = u} {w = w} e r) = reaches_on (edge_groups u w e) (to_groups r)

    -- what is said is yes exactly where a path leads over all edges
    pub says_right : (u v : ℕ) → u < length I.names → v < length I.names → (added_says I S T u v ≡ true) ↔ Reaches all u v
    unfolding added_says
    says_right u v hu hv =
        Iff.trans (reaches_exactly D (groups_ends Z low paired) (place_in I u) (place_in I v)) ((λ r. from_groups r u hu refl v hv refl), to_groups)
