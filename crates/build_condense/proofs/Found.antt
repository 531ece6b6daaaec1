-- From the edges to the groups, step by step. The first n words send each vertex to itself, so the rows that are laid out are the rows of the edge list; every
-- vertex is a root of the traversal, so the names that it leaves are the graph's; and names that are not above their vertices and are their own names can be
-- listed.
use mathlib.Core.Bool.{true}
use mathlib.Core.Path.{◌≡◌, sym, ap, ◌∙◌, subst}
use mathlib.Core.Logic.{◌↔◌}
use mathlib.Core.List.{List}
use Prim.Native.Nat.{ℕ, ◌+◌, ◌*◌, ◌≤◌, ◌<◌}
use native.Mathlib.Nat.{zero-add}
use native.Mathlib.Omega.{arith}
use lib.ListN.{length}
use Rattle.lineage.specs.Lists.{among, upto, part}
use Rattle.lineage.specs.Graph.{Graph, Edge, names_of, group_list}
use Rattle.laws.specs.EdgeRows.{row, EdgeRows}
use Rattle.laws.specs.OnePass.{GroupNames}
use Rattle.laws.specs.Laid.{Below}
use Rattle.laws.proofs.Lists.{upto_low}
use Rattle.laws.proofs.Parts.{part_length}
use Rattle.laws.proofs.Laid.{in_below, values_below}
use Rattle.laws.proofs.Edges.{sources_below, targets_below}
use Rattle.laws.proofs.EdgeRows.{edge_rows}
use Rattle.laws.proofs.OnePass.{names_are}
use Rattle.numbers.specs.Regions.{Kept, under, over}
use Rattle.numbers.proofs.Regions.{kept_then, kept_wider}
use Rattle.build_rows.specs.Rows.{RowsAt, rows_in, mapped}
use Rattle.build_rows.specs.Fit.{PairsFit}
use Rattle.build_rows.proofs.Contents.{mapped_self}
use Rattle.build_traversal.specs.Fit.{TraverseFit}
use Rattle.build_groups.specs.Fit.{ListFit}
use Rattle.build_groups.specs.Places.{places_of_names}
use Rattle.build_groups.proofs.Names.{names_named}
use Rattle.build_condense.specs.Window.{groups_window, CondenseFit, GroupsFound}

module _ {G : Graph} {work₀ work₁ : List ℕ} (fit : CondenseFit G work₀) (counting : Kept work₀ work₁ 0 G.n) (counted : part work₁ 0 G.n ≡ upto G.n) where
  abbrev n : ℕ
  n = G.n

  abbrev e : ℕ
  e = length G.sources

  abbrev base : ℕ
  base = n + n + 1 + e

  abbrev size : ℕ
  size = groups_window n e

  long₁ : size ≤ length work₁
  long₁ = omega (arith, fit.room, counting.long)

  pub rows_fit : PairsFit G.sources G.targets work₁ 0 n n n
  rows_fit = record {
    keys_fit = record {
      keys_low = sources_below G fit.ends;
      table_there = record { fits = omega (arith, long₁); apart = under (omega arith) };
      table_low = rw counted (in_below n (upto n) (upto_low n));
      room = omega (arith, long₁);
      few = fit.few_edges;
    };
    paired = sym fit.ends.paired;
    values_low = targets_below G fit.ends;
  }

  -- the rows are laid out
  module _
      {work₂ : List ℕ} (laying : Kept work₁ work₂ n (n + 1 + e))
      (laid : RowsAt work₂ n n e (row (mapped (part work₁ 0 n) G.sources) (mapped (part work₁ 0 n) G.targets)))
    where
      long₂ : size ≤ length work₂
      long₂ = omega (arith, long₁, laying.long)

      edges : RowsAt work₂ n n e (row G.sources G.targets)
      edges =
          let self : (xs : List ℕ) → Below n xs → mapped (part work₁ 0 n) xs ≡ xs = λ xs low. ap (λ z. mapped z xs) counted ∙ mapped_self n xs low in
          rw (self G.sources (sources_below G fit.ends), self G.targets (targets_below G fit.ends)) at laid

      roots_are : part work₂ 0 n ≡ upto n
      roots_are = laying.below 0 n (omega arith) ∙ counted

      edge_to : (u v : ℕ) → among v (row G.sources G.targets u) ≡ true → v < n
      edge_to u v i = fit.ends.targets_low u v ((edge_rows G.sources G.targets u v).0 i)

      pub names_fit : TraverseFit work₂ n (n + n + 1) e 0 n n base (6 * n)
      names_fit = record {
        laid = edges.laid;
        values_low = values_below edges n (λ u v h. edge_to u v);
        roots_low = rw roots_are (in_below n (upto n) (upto_low n));
        starts_there = record { fits = omega (arith, long₂); apart = under (omega arith) };
        values_there = record { fits = omega (arith, long₂); apart = under (omega arith) };
        roots_there = record { fits = omega (arith, long₂); apart = under (omega arith) };
        room = omega (arith, long₂);
        frames_room = omega arith;
        few_values = fit.few_edges;
        few_roots = fit.few_vertices;
        few = fit.few_vertices;
      }

      edges_held : EdgeRows G (rows_in work₂ n (n + n + 1) e n)
      edges_held = record {
        holds = λ u v h.
            subst (λ (r : List ℕ). (among v r ≡ true) ↔ Edge G.sources G.targets u v) (sym (edges.row_is u h)) (edge_rows G.sources G.targets u v);
      }

      -- and gone through
      module _ {work₃ : List ℕ} (naming : Kept work₂ work₃ base (6 * n)) (named : GroupNames (rows_in work₂ n (n + n + 1) e n) (part work₂ 0 n) (part work₃ (base + 5 * n) n)) where
        long₃ : size ≤ length work₃
        long₃ = omega (arith, long₂, naming.long)

        names : part work₃ (base + 5 * n) n ≡ names_of G
        names = names_are fit.ends edges_held (part work₃ (base + 5 * n) n) (part_length work₃ (base + 5 * n) n (omega (arith, long₃))) (rw roots_are at named)

        pub list_fit : ListFit work₃ (base + 5 * n) n 0
        list_fit = record {
          names_there = record { fits = omega (arith, long₃); apart = over (omega arith) };
          named = rw names (names_named G fit.ends);
          room = omega (arith, long₃);
          few = omega (arith, fit.few_vertices);
        }

        -- and the names listed
        pub groups_found :
            {work₄ : List ℕ} {k : ℕ} → Kept work₃ work₄ 0 (3 * n) → k ≤ n → part work₄ 0 n ≡ part work₃ (base + 5 * n) n → part work₄ (0 + n) k ≡ group_list (part work₃ (base + 5 * n) n)
            → part work₄ (0 + 2 * n) n ≡ places_of_names (part work₃ (base + 5 * n) n) → GroupsFound G work₀ work₄ k
        groups_found {work₄} {k} listing few copied listed placed =
            let groups : part work₄ n k ≡ group_list (names_of G) = rw (zero-add n) at listed ∙ ap group_list names in
            record {
              kept =
                  kept_then (kept_wider 0 size (omega arith) (omega arith) counting)
                  (kept_then (kept_wider 0 size (omega arith) (omega arith) laying)
                  (kept_then (kept_wider 0 size (omega arith) (omega arith) naming) (kept_wider 0 size (omega arith) (omega arith) listing)));
              few = few;
              names = copied ∙ names;
              groups = groups;
              count = sym (part_length work₄ n k (omega (arith, long₃, listing.long))) ∙ ap length groups;
              places = rw (zero-add (2 * n)) at placed ∙ ap places_of_names names;
            }
