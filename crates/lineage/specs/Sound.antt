-- Sound contents (document 01, "Stored form 1": "Opening decides this without trying orders"): the local tests that decide, over the stored
-- lists alone, whether some edge list and some orders yield an index. That they decide exactly this is a theorem of `laws`. And what a plain hierarchy is (document 02, [14]).
use Rattle.std.specs.Prelude.{Bool, true, false, not, ◌&&◌, ◌||◌, List, [], map, ℕ, zero, suc, ◌-◌, eqb, leb, ltb, length, get_or}
use Rattle.lineage.specs.Lists.{upto, any, all_below, among, those, all_of, least, greatest, same_list}
use Rattle.lineage.specs.Graph.{group_list}
use Rattle.lineage.specs.Labels.{Labelling, nobodys_child}
use Rattle.lineage.specs.Index.{Index}
use Rattle.lineage.specs.Stored.{Form, Counts, counts_in, section, decode}

-- q is a child of p
abbrev pub child_of : List (List ℕ) → ℕ → ℕ → Bool
child_of children p q = among q (get_or children p [])

-- the groups that have q as a child
abbrev pub parents_of : List (List ℕ) → ℕ → List ℕ
parents_of children q = those (λ p. child_of children p q) (upto (length children))

-- q is a child of two others
abbrev pub shared : List (List ℕ) → ℕ → Bool
shared children q = ltb 1 (length (parents_of children q))

-- a plain hierarchy: no group is a child of two others
unfoldable pub is_tree : List (List ℕ) → Bool
is_tree children = not (any (shared children) (upto (length children)))

-- a name is not above its vertex and is its own name; the group list is all names, rising
unfoldable pub names_pass : List ℕ → List ℕ → Bool
unfolding group_list
names_pass names groups =
    all_below (length names) (λ v. leb (get_or names v 0) v && eqb (get_or names (get_or names v 0) 0) (get_or names v 0))
    && same_list groups (group_list names)

-- the children of p are places, strictly rising
abbrev pub row_passes : List (List ℕ) → ℕ → Bool
row_passes children p =
    all_below (length (get_or children p [])) (λ i. ltb (get_or (get_or children p []) i 0) (length children))
    && all_below (length (get_or children p []) - 1) (λ i. ltb (get_or (get_or children p []) i 0) (get_or (get_or children p []) (suc i) 0))

-- the level of p is 0 without children, otherwise one more than the greatest level among its children
abbrev pub level_passes : List (List ℕ) → List ℕ → ℕ → Bool
level_passes children levels p = eqb (get_or levels p 0) (greatest (map (λ q. suc (get_or levels q 0)) (get_or children p [])))

-- names, group list, children and levels agree
unfoldable pub groups_pass : List ℕ → List ℕ → List ℕ → List (List ℕ) → Bool
unfolding names_pass
groups_pass names groups levels children =
    names_pass names groups
    && ((eqb (length children) (length groups) && eqb (length levels) (length children))
    && (all_below (length children) (row_passes children) && all_below (length children) (level_passes children levels)))

-- the place at rank r has that rank
abbrev pub rank_passes : ℕ → Labelling → ℕ → Bool
rank_passes k l r = ltb (get_or l.by_rank r 0) k && eqb (get_or l.e (get_or l.by_rank r 0) 0) (suc r)

-- e falls along the children of p
abbrev pub fall_passes : List (List ℕ) → Labelling → ℕ → Bool
fall_passes children l p = all_below (length (get_or children p [])) (λ i. ltb (get_or l.e (get_or (get_or children p []) i 0) 0) (get_or l.e p 0))

-- s of p is the least of its own e and its children's s
abbrev pub outer_passes : List (List ℕ) → Labelling → ℕ → Bool
outer_passes children l p = eqb (get_or l.s p 0) (least (get_or l.e p 0) (map (λ q. get_or l.s q 0) (get_or children p [])))

-- m of p is a rank not above its e
abbrev pub inner_passes : Labelling → ℕ → Bool
inner_passes l p = leb 1 (get_or l.m p 0) && leb (get_or l.m p 0) (get_or l.e p 0)

-- the left walk over ranks, from hi down to lo: while it stands above lo, the place at that rank passes the test, and the walk goes on to
-- the left of its inner interval; it ends at lo exactly; f bounds the steps
unfoldable pub walk_ends : Labelling → (ℕ → Bool) → ℕ → ℕ → ℕ → Bool
walk_ends l test zero hi lo = eqb hi lo
walk_ends l test (suc f) zero lo = eqb zero lo
walk_ends l test (suc f) (suc q) lo =
    elim (leb (suc q) lo) [
      | true ↦ eqb (suc q) lo
      | false ↦ test (get_or l.by_rank q 0) && walk_ends l test f (get_or l.m (get_or l.by_rank q 0) 0 - 1) lo
    ]

-- the inner interval of p is p's own rank and, side by side, the inner intervals of children of p
abbrev pub block_passes : List (List ℕ) → Labelling → ℕ → Bool
block_passes children l p = walk_ends l (child_of children p) (length children) (get_or l.e p 0 - 1) (get_or l.m p 0 - 1)

-- all ranks are, side by side, the inner intervals of groups that are nobody's child
abbrev pub roots_pass : List (List ℕ) → Labelling → Bool
roots_pass children l = walk_ends l (nobodys_child children) (length children) (length children) 0

-- one labelling over given children
unfoldable pub labels_pass : List (List ℕ) → Labelling → Bool
unfolding walk_ends nobodys_child
labels_pass children l =
    (eqb (length l.s) (length children)
    && (eqb (length l.m) (length children) && (eqb (length l.e) (length children) && eqb (length l.by_rank) (length children))))
    && (all_below (length children) (rank_passes (length children) l)
    && (all_below (length children) (fall_passes children l)
    && (all_below (length children) (outer_passes children l)
    && (all_below (length children) (inner_passes l)
    && (all_below (length children) (block_passes children l) && roots_pass children l)))))

-- whether some edge list and some orders yield the index
unfoldable pub sound : Index → Bool
unfolding groups_pass labels_pass
sound I = groups_pass I.names I.groups I.levels I.children && all_of (labels_pass I.children) I.labels

-- child starts: first 0, never falling, last c
abbrev pub starts_pass : List ℕ → ℕ → ℕ → Bool
starts_pass starts k c =
    eqb (get_or starts 0 0) 0 && (all_below k (λ p. leb (get_or starts p 0) (get_or starts (suc p) 0)) && eqb (get_or starts k 0) c)

-- whether the contents of bytes are sound, their header being right; at a form of plain hierarchies the children are one
unfoldable pub contents_sound : Form → List ℕ → Bool
unfolding section decode sound is_tree
contents_sound F b =
    let a : Counts = counts_in b in
    starts_pass (section F.width F.by_place a b 3) a.k a.c && (sound (decode F b) && (not F.tree || is_tree (decode F b).children))
