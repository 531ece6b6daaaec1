-- An index passes the tests exactly where some edge list and some orders make it, and the computed test decides this. What is made passes by the laws
-- of the graph and of the labelling under an order; of what passes, names and children are those of a graph, and each labelling is that of an order.
use mathlib.Core.Bool.{true}
use mathlib.Core.Logic.{◌↔◌}
use mathlib.Core.Path.{◌≡◌, refl, sym, ap, ap₂, subst, ◌∙◌}
use mathlib.Core.List.{List, [], ◌∷◌, map}
use Prim.Native.Nat.{ℕ, ◌<◌}
use native.Mathlib.Omega.{arith}
use lib.ListN.{length, get_or}
use Rattle.lineage.specs.Lists.{Every}
use Rattle.lineage.specs.Graph.{Graph, Ends, Reaches, Condensed, condense}
use Rattle.lineage.specs.Labels.{Order, Labelling, labelling}
use Rattle.lineage.specs.Index.{Index, index_by, index_of, Made}
use Rattle.lineage.specs.Question.{place_in}
use Rattle.lineage.specs.Sound.{sound}
use Rattle.laws.specs.Leads.{Down, OneGroup}
use Rattle.laws.specs.Sound.{SoundLabelling, SoundGroups, Sound}
use Rattle.laws.proofs.Names.{name_one, names_long, name_at_lem}
use Rattle.laws.proofs.Condensed.{groups_sound}
use Rattle.laws.proofs.Paths.{paths_exactly}
use Rattle.laws.proofs.Labelled.{labelling_sound}
use Rattle.laws.proofs.OrderFound.{order_found}
use Rattle.laws.proofs.GraphFound.{graph, graph_ends, condense_made}
use Rattle.laws.proofs.Decides.{sound_decides}

-- made, then sound
module _ {names groups levels : List ℕ} {children : List (List ℕ)} (S : SoundGroups names groups levels children) where
  labellings_sound :
      (n : ℕ) → n ≡ length names → (orders : List (List ℕ)) → Every (Order n) orders
      → Every (SoundLabelling children) (map (labelling groups children) orders)
  labellings_sound n e [] os = tt
  labellings_sound n e (o ∷ orders) os = (labelling_sound S o (rw e at os.0), labellings_sound n e orders os.1)

-- the index of an edge list under some orders passes the tests
pub made_sound : (G : Graph) → Ends G → (orders : List (List ℕ)) → Every (Order G.n) orders → Sound (index_of G orders)
unfolding index_of index_by condense
made_sound G ends orders os =
    record { condensed = groups_sound G ends; labelled = labellings_sound (groups_sound G ends) G.n (sym (names_long G ends)) orders os }

-- sound, then made
orders_found :
    {names groups levels : List ℕ} {children : List (List ℕ)} → SoundGroups names groups levels children → (ls : List Labelling) → Every (SoundLabelling children) ls
    → (orders : List (List ℕ)) × Every (Order (length names)) orders × (map (labelling groups children) orders ≡ ls)
orders_found S [] Ls = ([], tt, refl)
orders_found S (l ∷ ls) Ls =
    let (o, p, e) = order_found S Ls.0 in
    let (os, ps, es) = orders_found S ls Ls.1 in
    (o ∷ os, (p, ps), ap₂ ◌∷◌ e es)

module _ (I : Index) (S : Sound I) where
  index_made : (os : List (List ℕ)) → map (labelling I.groups I.children) os ≡ I.labels → index_of (graph S.condensed) os ≡ I
  unfolding index_of index_by
  index_made os e =
      let (c, v) = condense_made S.condensed in
      ap (λ (c : Condensed). index_by c os) c ∙ λ i. record { names = I.names; groups = I.groups; levels = v i; children = I.children; labels = e i }

  pub sound_made : Made I
  sound_made =
      let (os, ps, e) = orders_found S.condensed I.labels S.labelled in
      record { graph = graph S.condensed; ends = graph_ends S.condensed; orders = os; permuted = ps; yields = index_made os e }

-- the two together
pub sound_exactly : (I : Index) → Sound I ↔ Made I
sound_exactly I = (sound_made I, λ M. subst Sound M.yields (made_sound M.graph M.ends M.orders M.permuted))

-- and as computed
pub sound_is_made : (I : Index) → (sound I ≡ true) ↔ Made I
sound_is_made I = ((λ h. sound_made I ((sound_decides I).0 h)), λ M. (sound_decides I).1 ((sound_exactly I).1 M))

-- of every graph that yields the index: it has as many vertices as the index has names, its groups are the vertices of one name, and its paths those down the
-- index's children
module _ {I : Index} (M : Made I) where
  pub made_long : length I.names ≡ M.graph.n
  unfolding index_of index_by condense
  made_long = ap (λ (J : Index). length J.names) (sym M.yields) ∙ names_long M.graph M.ends

  pub made_groups :
      (u v : ℕ) → u < length I.names → v < length I.names → (get_or I.names u 0 ≡ get_or I.names v 0) ↔ OneGroup M.graph u v
  unfolding index_of index_by condense
  made_groups u v hu hv =
      let bu : u < M.graph.n = omega (arith, made_long) in
      let bv : v < M.graph.n = omega (arith, made_long) in
      subst (λ (J : Index). (get_or J.names u 0 ≡ get_or J.names v 0) ↔ OneGroup M.graph u v) M.yields
      (rw (name_at_lem M.graph M.ends u bu, name_at_lem M.graph M.ends v bv) (name_one M.graph M.ends u v bu bv))

  pub made_paths :
      (u v : ℕ) → u < length I.names → v < length I.names → Reaches M.graph u v ↔ Down I.children (place_in I u) (place_in I v)
  unfolding index_of index_by condense
  made_paths u v hu hv =
      subst (λ (J : Index). Reaches M.graph u v ↔ Down J.children (place_in J u) (place_in J v)) M.yields
      (paths_exactly M.graph M.ends u v (omega (arith, made_long)) (omega (arith, made_long)))
