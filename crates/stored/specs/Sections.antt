-- The sections as parts of the stored bytes, and the lists that they hold, each told from its own stretch of bytes at a width. `decode` of lineage reads a
-- whole image; code is lent the stretches, and its contracts speak of these lists.
use Rattle.std.specs.Prelude.{◌≡◌, List, map, ℕ, ◌+◌, ◌*◌, ◌-◌, ◌≤◌, length, get_or}
use Rattle.lineage.specs.Lists.{upto, part}
use Rattle.lineage.specs.Labels.{Labelling}
use Rattle.lineage.specs.Index.{Index}
use Rattle.lineage.specs.Numbers.{Width, num_at, numbers}
use Rattle.lineage.specs.Stored.{sizes, counts_in, stretch, row_at, most_labellings}
use Rattle.numbers.specs.Bounds.{vertex_bound}
use Rattle.numbers.specs.Regions.{Part}
use Rattle.stored_header.specs.declared.Layout.{Layout}
use Rattle.stored_header.specs.Header.{Stride}

-- r is section i of the bytes, whole
pub record Section (b : List ℕ) (l : Layout) (i : ℕ) (r : List ℕ) : Type 0 where
  pub is : r ≡ stretch l.width l.stride (counts_in b) b i
  pub long : length r ≡ l.width * get_or (sizes l.stride l.n l.k l.c l.d) i 0

-- all six
pub record Six (b : List ℕ) (l : Layout) (names groups levels starts children labels : List ℕ) : Type 0 where
  pub names_in : Section b l 0 names
  pub groups_in_lem : Section b l 1 groups
  pub levels_in : Section b l 2 levels
  pub starts_in : Section b l 3 starts
  pub children_in_lem : Section b l 4 children
  pub labels_in : Section b l 5 labels

-- r is the children of the group at place p, from child start to next child start
abbrev pub ChildrenOf : List ℕ → List ℕ → ℕ → ℕ → List ℕ → Type 0
ChildrenOf starts children w p r =
    Part children (w * num_at w starts p) (w * (num_at w starts (p + 1) - num_at w starts p)) r

-- for each of k places its children, of c in all
unfoldable pub children_in : ℕ → List ℕ → List ℕ → ℕ → ℕ → List (List ℕ)
unfolding numbers row_at
children_in w starts children k c = map (row_at (numbers w starts (k + 1)) (numbers w children c)) (upto k)

-- one labelling of k groups: z numbers of each by place, triples s, m, e or pairs s, e, and places by rank
unfoldable pub labelling_in : ℕ → ℕ → List ℕ → List ℕ → ℕ → Labelling
unfolding numbers
labelling_in w z tuples places k = record {
  s = map (λ p. num_at w tuples (z * p)) (upto k);
  m = map (λ p. num_at w tuples (z * p + (z - 2))) (upto k);
  e = map (λ p. num_at w tuples (z * p + (z - 1))) (upto k);
  by_rank = numbers w places k;
}

-- labels hold d labellings of k groups, within the bounds of every form
pub record Labellings (w z : ℕ) (labels : List ℕ) (k d : ℕ) : Type 0 where
  pub width : Width w
  pub stride : Stride z
  pub groups_few : k ≤ vertex_bound
  pub labellings_few : d ≤ most_labellings
  pub long : w * (d * ((z + 1) * k)) ≤ length labels

-- the numbers by place of labelling j, and its places by rank, as stretches of the labels
unfoldable pub tuples_of : ℕ → ℕ → List ℕ → ℕ → ℕ → List ℕ
unfolding part
tuples_of w z labels k j = part labels (w * (j * ((z + 1) * k))) (w * (z * k))

unfoldable pub places_of : ℕ → ℕ → List ℕ → ℕ → ℕ → List ℕ
unfolding part
places_of w z labels k j = part labels (w * (j * ((z + 1) * k) + z * k)) (w * k)

-- all d labellings
unfoldable pub labels_in : ℕ → ℕ → List ℕ → ℕ → ℕ → List Labelling
unfolding labelling_in tuples_of places_of
labels_in w z labels k d = map (λ j. labelling_in w z (tuples_of w z labels k j) (places_of w z labels k j) k) (upto d)

-- the index that six stretches hold
unfoldable pub index_from : (w z n k c d : ℕ) → (names groups levels starts children labels : List ℕ) → Index
unfolding numbers children_in labels_in
index_from w z n k c d names groups levels starts children labels = record {
  names = numbers w names n;
  groups = numbers w groups k;
  levels = numbers w levels k;
  children = children_in w starts children k c;
  labels = labels_in w z labels k d;
}

-- the same at the width, the stride and the counts of a layout
abbrev pub index_at : Layout → (names groups levels starts children labels : List ℕ) → Index
index_at l names groups levels starts children labels =
    index_from l.width l.stride l.n l.k l.c l.d names groups levels starts children labels
