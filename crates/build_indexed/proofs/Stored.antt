-- Groups and children of a graph in work memory, as the two passes leave them one after the other: the second reads the places that the first left, and writes
-- behind them. All windows lie in the needed words, since there are no more groups than vertices.
use mathlib.Core.Path.{◌≡◌, sym, ap, ◌∙◌}
use mathlib.Core.List.{List}
use Prim.Native.Nat.{ℕ, ◌*◌, ◌≤◌, ◌<◌}
use native.Mathlib.Omega.{arith}
use lib.ListN.{length, get_or}
use Rattle.lineage.specs.Lists.{joined, part}
use Rattle.lineage.specs.Graph.{Graph, condense, names_of, group_list, place_of, children_of}
use Rattle.lineage.specs.Stored.{starts_from}
use Rattle.lineage.specs.Calls.{work_needed}
use Rattle.laws.proofs.Names.{names_long}
use Rattle.laws.proofs.Grouped.{place_low}
use Rattle.laws.proofs.Condensed.{children_long, groups_sound}
use Rattle.laws.proofs.Parts.{part_length}
use Rattle.numbers.specs.Regions.{under}
use Rattle.numbers.proofs.Regions.{kept_then, kept_wider}
use Rattle.build_groups.proofs.Listing.{place_at}
use Rattle.build_condense.specs.Window.{GroupsFound}
use Rattle.build_children.specs.Window.{ChildrenFit, ChildrenFound}
use Rattle.build_children.proofs.Found.{ChildrenStored, children_stored}
use Rattle.build_labelled.specs.Window.{children_by}
use Rattle.build_labelled.proofs.Stored.{children_are, stored_fits}
use Rattle.build_indexed.specs.Memory.{children_from, condensed_in, GroupsStored, CondensedFit, CondensedFound}

module _ {G : Graph} {work₀ work₁ : List ℕ} {k : ℕ} (fit : CondensedFit G work₀) (found : GroupsFound G work₀ work₁ k) where
  abbrev n : ℕ
  n = G.n

  abbrev e : ℕ
  e = length G.sources

  abbrev names : List ℕ
  names = names_of G

  abbrev groups : List ℕ
  groups = group_list names

  abbrev children : List (List ℕ)
  children = children_of G names groups

  all : length groups ≡ k
  all = sym found.count

  room : work_needed G ≤ length work₁
  room = omega (arith, fit.room, found.kept.long)

  -- each vertex has the place of its group, below k
  places : (v : ℕ) → v < n → get_or (part work₁ (2 * n) n) v 0 ≡ place_of groups (get_or names v 0)
  places v h = ap (λ (z : List ℕ). get_or z v 0) found.places ∙ place_at names v (omega (arith, names_long G fit.ends))

  places_low : (v : ℕ) → v < n → get_or (part work₁ (2 * n) n) v 0 < k
  places_low v h =
      omega (arith, places v h, place_low (groups_sound G fit.ends) v (omega (arith, names_long G fit.ends)), children_long G fit.ends, all)

  pub children_fit : ChildrenFit G work₁ (2 * n) k (3 * n)
  children_fit = record {
    ends = fit.ends;
    place_there = record { fits = omega (arith, room); apart = under (omega arith) };
    place_low = λ v h. places_low v (omega (arith, part_length work₁ (2 * n) n (omega (arith, room))));
    room = omega (arith, room, found.few);
    few_edges = omega (arith, fit.edges);
    few_groups = omega (arith, fit.vertices, found.few);
  }

  module _ {work₂ : List ℕ} {c : ℕ} (laid : ChildrenFound G work₁ work₂ (2 * n) k (3 * n) c) where
    stored : ChildrenStored children work₂ (3 * n) k e c
    stored = children_stored children_fit laid all places

    names_are : part work₂ 0 n ≡ names
    names_are = laid.kept.below 0 n (omega arith) ∙ found.names

    groups_are_lem : part work₂ n k ≡ groups
    groups_are_lem = laid.kept.below n k (omega (arith, found.few)) ∙ found.groups

    children_same : children_by work₂ (children_from n k e) k c ≡ children
    children_same = children_are G fit.ends all stored

    groups_stored : GroupsStored work₂ n k c e
    groups_stored = record {
      few_groups = found.few;
      few_children = laid.few;
      fit =
          stored_fits G fit.ends all stored names_are (laid.kept.below (2 * n) n (omega arith) ∙ found.places) (omega arith) (omega arith) laid.few
          (omega (arith, laid.few))
          (omega (arith, room, laid.kept.long, laid.few, found.few))
          (omega (arith, fit.vertices, found.few))
          (omega (arith, fit.edges, laid.few));
      groups = groups_are_lem ∙ ap group_list (sym names_are);
      starts = stored.starts ∙ ap (starts_from 0) (sym children_same);
      values = stored.values ∙ ap joined (sym children_same);
    }

    condensed_is : condensed_in work₂ n k c e ≡ condense G
    unfolding condense
    condensed_is = rw (names_are, groups_are_lem, children_same)

    pub condensed_found : CondensedFound G work₀ work₂ k c
    condensed_found = record {
      kept =
          kept_then (kept_wider 0 (work_needed G) (omega arith) (omega arith) found.kept)
          (kept_wider 0 (work_needed G) (omega arith) (omega (arith, found.few)) laid.kept);
      stored = groups_stored;
      is = condensed_is;
    }
