-- The tests of the sections together, and the rows that they give once those of groups have passed.
use mathlib.Core.Bool.{Bool, true, not, ◌&&◌, ◌||◌, and_assoc}
use mathlib.Core.Path.{◌≡◌, sym, ap, ◌∙◌}
use mathlib.Core.List.{List}
use Prim.Native.Nat.{ℕ, ◌+◌}
use native.Mathlib.Omega.{arith}
use lib.Dec.{eqb}
use Rattle.lineage.specs.Lists.{all_of}
use Rattle.lineage.specs.Numbers.{numbers}
use Rattle.lineage.specs.Sound.{is_tree, starts_pass, groups_pass, labels_pass, sound}
use Rattle.stored_header.specs.Header.{Laid}
use Rattle.stored_header.specs.declared.Layout.{Layout}
use Rattle.stored.specs.Rows.{Children}
use Rattle.stored.specs.Sections.{Section, children_in, labels_in, index_from}

-- the tests of groups and of labels together
pub parts_is : (w z n k c d : ℕ) (names groups levels starts children labels : List ℕ)
    → (let rows : List (List ℕ) = children_in w starts children k c in
    ((starts_pass (numbers w starts (k + 1)) k c && groups_pass (numbers w names n) (numbers w groups k) (numbers w levels k) rows)
    && (all_of (labels_pass rows) (labels_in w z labels k d) && (not (eqb z 2) || is_tree rows)))
    ≡ (starts_pass (numbers w starts (k + 1)) k c && (sound (index_from w z n k c d names groups levels starts children labels)
    && (not (eqb z 2) || is_tree (index_from w z n k c d names groups levels starts children labels).children))))
unfolding sound index_from
parts_is w z n k c d names groups levels starts children labels =
    let rows : List (List ℕ) = children_in w starts children k c in
    let starting : Bool = starts_pass (numbers w starts (k + 1)) k c in
    let grouped : Bool = groups_pass (numbers w names n) (numbers w groups k) (numbers w levels k) rows in
    let labelled : Bool = all_of (labels_pass rows) (labels_in w z labels k d) in
    let plain : Bool = not (eqb z 2) || is_tree rows in
    and_assoc starting grouped (labelled && plain) ∙ ap (λ (b : Bool). starting && b) (sym (and_assoc grouped labelled plain))

-- child starts that have passed, with the children that they part
pub rows_held : {b starts children : List ℕ} {l : Layout} → Laid b l → Section b l 3 starts → Section b l 4 children
    → starts_pass (numbers l.width starts (l.k + 1)) l.k l.c ≡ true
    → Children l.width starts children l.k l.c
rows_held L S C t = record {
  rows = record { starts_held = record { held = record { width = L.width; long = omega (arith, S.long); few = omega (arith, L.groups, L.vertices) } }; passed = t };
  held = record { width = L.width; long = omega (arith, C.long); few = L.entries };
}
