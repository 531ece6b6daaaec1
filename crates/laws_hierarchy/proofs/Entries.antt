-- A plain hierarchy has no more child entries than groups: in the rows one after the other no child stands twice, since a row has no repeats and two
-- rows with a common child are one. So the graph that is found for a sound index, of two edges to a vertex and one to an entry, has at most 3n edges.
use mathlib.Core.Bool.{true}
use mathlib.Core.Logic.{◌↔◌}
use mathlib.Core.Path.{◌≡◌, refl, sym, ap, subst, ◌∙◌}
use mathlib.Core.List.{List, [], ◌∷◌, ◌++◌, map}
use Prim.Native.Nat.{ℕ, suc, ◌+◌, ◌*◌, ◌<◌, ◌≤◌}
use native.Mathlib.Omega.{arith}
use lib.ListN.{length, get_or, length-append, length-map}
use lib.Dec.{eqb}
use Rattle.lineage.specs.Lists.{upto, among, joined, Every}
use Rattle.lineage.specs.Graph.{group_list, Condensed, condense}
use Rattle.lineage.specs.Labels.{Order, labelling}
use Rattle.lineage.specs.Index.{Index, index_by, index_of, Made}
use Rattle.lineage.specs.Sound.{is_tree}
use Rattle.laws.specs.Rising.{Distinct}
use Rattle.laws.specs.Sound.{SoundGroups, Sound}
use Rattle.laws.proofs.Tests.{is_false}
use Rattle.laws.proofs.Lists.{Kept, in_upto, length_upto, table_at, table_long}
use Rattle.laws.proofs.Every.{every_get_d}
use Rattle.laws.proofs.Joined.{joined_in}
use Rattle.laws.proofs.Rising.{distinct_append, pigeonhole, those_short}
use Rattle.laws.proofs.Grouped.{child_in, children_once}
use Rattle.laws.proofs.GraphFound.{graph, graph_ends, condense_made}
use Rattle.laws.proofs.Sound.{sound_made, sound_exactly, made_long}
use Rattle.laws.proofs.Depends.{index_same}
use Rattle.laws_hierarchy.specs.Hierarchy.{OneParent}
use Rattle.laws_hierarchy.proofs.Parents.{tree_exactly}

-- rows without repeats, of which no two have a common number, have none when joined
rows_once : (rows : List (List ℕ)) → Every Distinct rows → OneParent rows → Distinct (joined rows)
rows_once [] each one = tt
rows_once (row ∷ rows) each one =
    distinct_append row (joined rows) each.0
    (rows_once rows each.1 (λ p q x hp hq i j. omega (arith, one (suc p) (suc q) x (omega arith) (omega arith) i j)))
    (λ x i. is_false (among x (joined rows)) (λ t. let (p, h, j) = joined_in rows x t in omega (arith, one 0 (suc p) x (omega arith) (omega arith) i j)))

-- lists of the same lengths, pair by pair, are of one length when joined
joined_same :
    (X Y : List (List ℕ)) → length X ≡ length Y → ((i : ℕ) → i < length X → length (get_or X i []) ≡ length (get_or Y i []))
    → length (joined X) ≡ length (joined Y)
joined_same [] [] e each = refl
joined_same [] (y ∷ Y) e each = absurd (omega arith)
joined_same (x ∷ X) [] e each = absurd (omega arith)
joined_same (x ∷ X) (y ∷ Y) e each =
    omega (
      arith,
      length-append x (joined X),
      length-append y (joined Y),
      each 0 (omega arith),
      joined_same X Y (omega arith) (λ i h. each (suc i) (omega arith)),
    )

module _ {names groups levels : List ℕ} {children : List (List ℕ)} (S : SoundGroups names groups levels children) where
  -- the entries are at most the groups
  pub entries_most : is_tree children ≡ true → length (joined children) ≤ length groups
  entries_most tree =
      omega (
        arith,
        S.children_long,
        length_upto (length children),
        pigeonhole (joined children) (upto (length children))
            (rows_once children (every_get_d Distinct [] children (children_once S)) ((tree_exactly children (child_in S)).0 tree)) kept,
      )
    where
      kept : Kept (joined children) (upto (length children))
      kept x i = let (p, h, j) = joined_in children x i in in_upto (length children) x (child_in S p x h j)

  -- the groups are at most the vertices
  pub groups_most : length groups ≤ length names
  unfolding group_list
  groups_most =
      omega (
        arith,
        ap (λ (g : List ℕ). length g) S.groups_are_lem,
        those_short (λ v. eqb (get_or names v 0) v) (upto (length names)),
        length_upto (length names),
      )

  -- the graph that is found has two edges for each vertex and one for each entry
  pub edges_found : length (graph S).sources ≡ length names + (length names + length (joined children))
  edges_found =
      let n : ℕ = length names in
      let row : ℕ → List ℕ = λ p. map (λ q. get_or groups p 0) (get_or children p []) in
      let rows : List (List ℕ) = map row (upto (length children)) in
      let own : List ℕ = map (λ v. v) (upto n) in
      let named : List ℕ = map (λ v. get_or names v 0) (upto n) in
      omega (
        arith,
        length-append own (named ++ joined rows),
        length-append named (joined rows),
        table_long (λ v. v) n,
        table_long (λ v. get_or names v 0) n,
        joined_same rows children (table_long row (length children)) (λ p h.
            let b : p < length children = omega (arith, table_long row (length children)) in
            ap (λ (xs : List ℕ). length xs) (table_at row (length children) p [] b) ∙ length-map (get_or children p []) (λ q. get_or groups p 0)),
      )

-- the graph that is found makes the index, under the orders of any graph that does
module _ (I : Index) (S : Sound I) (M : Made I) where
  names_alike : (condense (graph S.condensed)).names ≡ (condense M.graph).names
  unfolding index_of index_by
  names_alike = ap (λ (c : Condensed). c.names) (condense_made S.condensed).0 ∙ ap (λ (J : Index). J.names) (sym M.yields)

  children_alike : (condense (graph S.condensed)).children ≡ (condense M.graph).children
  unfolding index_of index_by
  children_alike = ap (λ (c : Condensed). c.children) (condense_made S.condensed).0 ∙ ap (λ (J : Index). J.children) (sym M.yields)

  abbrev found : Made I
  found =
      record {
        graph = graph S.condensed;
        ends = graph_ends S.condensed;
        orders = M.orders;
        permuted = subst (λ (n : ℕ). Every (Order n) M.orders) (sym (made_long M)) M.permuted;
        yields = index_same (graph S.condensed) M.graph names_alike children_alike M.orders ∙ M.yields;
      }

-- some graph of at most 3n edges, and an order for each labelling, make a plain hierarchy that is sound
pub tree_made : (I : Index) → Sound I → is_tree I.children ≡ true → (M : Made I) × (length M.graph.sources ≤ 3 * length I.names)
tree_made I S tree =
    (found I S (sound_made I S), omega (arith, edges_found S.condensed, entries_most S.condensed tree, groups_most S.condensed))

-- an order makes a labelling
pub made_orders : {I : Index} (M : Made I) → length M.orders ≡ length I.labels
unfolding index_of index_by
made_orders M =
    let c : Condensed = condense M.graph in
    sym (length-map M.orders (labelling c.groups c.children)) ∙ ap (λ (J : Index). length J.labels) M.yields

-- so a plain hierarchy is sound, with one labelling, exactly where a graph of at most 3n edges and one order make it
pub tree_written :
    (I : Index) → is_tree I.children ≡ true
    → (Sound I × (length I.labels ≡ 1)) ↔ ((M : Made I) × (length M.orders ≡ 1) × (length M.graph.sources ≤ 3 * length I.names))
tree_written I tree = (
  λ s. let (M, few) = tree_made I s.0 tree in (M, omega (arith, made_orders M, s.1), few),
  λ w. let (M, one, few) = w in ((sound_exactly I).1 M, omega (arith, made_orders M)),
)
