-- The groups of a graph as the passes before leave them, all below the window: names and places of the vertices, then the parents and the children of each group, laid
-- out from `from` on for e edges. They can be labelled, and what is labelled is the graph's.
use mathlib.Core.Path.{◌≡◌, ◌∙◌}
use mathlib.Core.List.{List}
use Prim.Native.Nat.{ℕ, ◌+◌, ◌^◌, ◌≤◌, ◌<◌}
use native.Mathlib.Omega.{arith}
use lib.ListN.{length}
use Rattle.lineage.specs.Lists.{part}
use Rattle.lineage.specs.Graph.{Graph, Ends, names_of, group_list, children_of}
use Rattle.laws.proofs.Names.{names_long}
use Rattle.laws.proofs.Condensed.{children_long, groups_sound}
use Rattle.laws.proofs.Starts.{rows_are}
use Rattle.numbers.specs.Regions.{under}
use Rattle.build_groups.specs.Places.{places_of_names}
use Rattle.build_groups.proofs.Listing.{place_at}
use Rattle.build_children.specs.Window.{children_at}
use Rattle.build_children.proofs.Found.{ChildrenStored}
use Rattle.build_levels.specs.Children.{children_in_words}
use Rattle.build_labelled.specs.Window.{labels_window, children_by}
use Rattle.build_labelled.specs.Fit.{GroupsFit}

module _
    (G : Graph) (ends : Ends G) {work : List ℕ} {from k e c : ℕ} (all : length (group_list (names_of G)) ≡ k)
    (stored : ChildrenStored (children_of G (names_of G) (group_list (names_of G))) work from k e c)
  where
    -- the children that lie in the buffer
    pub children_are : children_by work (children_at from k e) k c ≡ children_of G (names_of G) (group_list (names_of G))
    unfolding children_in_words
    children_are = rows_are (children_of G (names_of G) (group_list (names_of G))) (children_long G ends ∙ all) stored.rows

    -- the groups can be labelled
    pub stored_fits :
        {names place base : ℕ} → part work names G.n ≡ names_of G → part work place G.n ≡ places_of_names (names_of G)
        → names + G.n ≤ base → place + G.n ≤ base → c ≤ e → children_at from k e + k + 1 + c ≤ base → base + labels_window G.n k c ≤ length work → k < 2 ^ 32 → c < 2 ^ 32
        → GroupsFit work G.n k c names place from (children_at from k e) base
    stored_fits names_are places_are names-low place_low most rows_low room few_groups few_children = record {
      vertices = record {
        names_there = record { fits = omega arith; apart = under names-low };
        place_there = record { fits = omega arith; apart = under place_low };
        places = rw (places_are, names_are) (λ v h. place_at (names_of G) v (omega (arith, names_long G ends)));
        all = rw names_are all;
        room = room;
      };
      children_there = record { starts = record { fits = omega arith; apart = under (omega arith) }; values = record { fits = omega arith; apart = under (omega arith) } };
      children_laid = stored.rows.laid;
      sound = rw (names_are, children_are) (groups_sound G ends);
      parents_there = record { starts = record { fits = omega arith; apart = under (omega arith) }; values = record { fits = omega arith; apart = under (omega arith) } };
      parents_are = rw children_are stored.parents;
      few_groups = few_groups;
      few_children = few_children;
    }
