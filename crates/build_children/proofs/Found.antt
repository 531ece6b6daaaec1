-- What the pass leaves, where places are those of a graph's groups: the children of lineage, stored as they lie, and the parents.
use mathlib.Core.Path.{◌≡◌, sym, ap, ◌∙◌, subst}
use mathlib.Core.List.{List, []}
use Prim.Native.Nat.{ℕ, ◌+◌, ◌≤◌, ◌<◌}
use native.Mathlib.Omega.{arith}
use native.Mathlib.Numerals.{add-one}
use lib.ListN.{length, get_or}
use Rattle.lineage.specs.Lists.{among, joined, part}
use Rattle.lineage.specs.Graph.{Graph, names_of, group_list, place_of, is_child, children_of}
use Rattle.lineage.specs.Stored.{starts_from}
use Rattle.lineage.specs.Sound.{child_of}
use Rattle.laws.proofs.Condensed.{children_long}
use Rattle.laws.proofs.Parts.{part_length}
use Rattle.laws.proofs.Starts.{values_are, starts_are}
use Rattle.build_children.specs.Places.{child_places}
use Rattle.build_children.specs.Window.{children_at, children_window, ChildrenFit, ChildrenAt, ParentsAt, ChildrenFound}
use Rattle.build_children.proofs.Rows.{rows_same, among_those}
use Rattle.build_children.proofs.Named.{children_are}

-- the children of k groups and their parents, in a window for e edges
pub record ChildrenStored (children : List (List ℕ)) (work : List ℕ) (base k e c : ℕ) : Type 0 where
  pub rows : ChildrenAt work base k e c (λ p. get_or children p [])
  pub starts : part work (children_at base k e) (k + 1) ≡ starts_from 0 children
  pub values : part work (children_at base k e + k + 1) c ≡ joined children
  pub count : c ≡ length (joined children)
  pub parents : ParentsAt work base k c (child_of children)

module _ {G : Graph} {work work' : List ℕ} {place k base c : ℕ} (fit : ChildrenFit G work place k base) (found : ChildrenFound G work work' place k base c) where
  abbrev groups : List ℕ
  groups = group_list (names_of G)

  abbrev children : List (List ℕ)
  children = children_of G (names_of G) groups

  module _
      (all : length groups ≡ k)
      (places : (v : ℕ) → v < G.n → get_or (part work place G.n) v 0 ≡ place_of groups (get_or (names_of G) v 0))
    where
      children_at_lem : (p : ℕ) → p < k → child_places G (part work place G.n) k p ≡ get_or children p []
      children_at_lem = subst (λ m. (p : ℕ) → p < m → child_places G (part work place G.n) m p ≡ get_or children p []) all (children_are G fit.ends (part work place G.n) places)

      children_all : length children ≡ k
      children_all = children_long G fit.ends ∙ all

      laid : ChildrenAt work' base k (length G.sources) c (λ p. get_or children p [])
      laid = rows_same found.children children_at_lem

      child_is : (p q : ℕ) → p < k → q < k → child_of children p q ≡ is_child G (part work place G.n) p q
      child_is p q h l = ap (among q) (sym (children_at_lem p h)) ∙ among_those (is_child G (part work place G.n) p) k q l

      -- the rows laid out are the children, their regions the two sections that hold them, and the other rows the parents
      pub children_stored : ChildrenStored children work' base k (length G.sources) c
      children_stored = record {
        rows = laid;
        starts = starts_are children children_all laid (part_length work' starts (k + 1) (omega (arith, room)) ∙ add-one k);
        values = values;
        count = sym (part_length work' (starts + k + 1) c (omega (arith, room, found.few))) ∙ ap length values;
        parents = record { laid = found.parents.laid; low = found.parents.low; once = found.parents.once; holds = λ q p h l. found.parents.holds q p h l ∙ sym (child_is p q l h) };
      }
        where
          starts : ℕ
          starts = children_at base k (length G.sources)

          room : base + children_window k (length G.sources) ≤ length work'
          room = omega (arith, fit.room, found.kept.long)

          values : part work' (starts + k + 1) c ≡ joined children
          values = values_are children children_all laid
