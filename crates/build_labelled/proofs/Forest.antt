-- The traversal that defines the labelling under an order: it finishes all places, children before their parents, and what meets its equations is the labelling. Wherever the places
-- by rank then lie, they and the children's rows are gone through upwards.
use mathlib.Core.Bool.{true}
use mathlib.Core.Path.{◌≡◌, refl, sym, ap, ◌∙◌, subst}
use mathlib.Core.List.{List, [], map}
use Prim.Native.Nat.{ℕ, suc, ◌+◌, ◌≤◌, ◌<◌}
use native.Mathlib.Omega.{arith}
use lib.ListN.{length, get_or}
use Rattle.lineage.specs.Lists.{among, position, least, part}
use Rattle.lineage.specs.Labels.{Order, in_order, Forest, finished, forest_of, labels_by, labelling}
use Rattle.lineage.specs.Sound.{child_of}
use Rattle.laws.specs.Laid.{Below}
use Rattle.laws.proofs.Lists.{table_at, table_long}
use Rattle.laws.specs.Visits.{before}
use Rattle.laws.proofs.Grouped.{child_in}
use Rattle.laws.proofs.Labelled.{finished_all, finished_low, finished_once, e_is, labelling_sound, labels_are_lem}
use Rattle.build_rows.proofs.Orders.{order_from}
use Rattle.laws.proofs.Parts.{part_length}
use Rattle.laws.proofs.Laid.{in_below, rows_below}
use Rattle.numbers.specs.Regions.{Kept, over}
use Rattle.build_rows.specs.Rows.{rows_in}
use Rattle.build_levels.specs.Children.{children_in_words}
use Rattle.build_levels.specs.Fit.{UpFit}
use Rattle.build_labelled.specs.Window.{by_rank_at, labels_window, groups_by, children_by}
use Rattle.build_labelled.specs.Fit.{LabelFit}
use Rattle.build_labelled.proofs.Regions.{outside_within, starts_same, values_same}

module _ {orders work : List ℕ} {at n k c names place parents children base : ℕ} (fit : LabelFit orders work at n k c names place parents children base) where
  abbrev pub below : List (List ℕ)
  below = children_by work children k c

  abbrev pub ranked : List ℕ
  ranked = in_order (part orders at n) (groups_by work names n)

  abbrev pub forest : Forest
  forest = forest_of below ranked

  abbrev pub row : ℕ → List ℕ
  row = rows_in work children (children + k + 1) c k

  -- a row of children for each place
  pub below_long : length below ≡ k
  unfolding children_in_words
  below_long = table_long row k

  row_at_lem : (p : ℕ) → p < k → get_or below p [] ≡ row p
  unfolding children_in_words
  row_at_lem p h = table_at row k p [] h

  pub child_at : (p q : ℕ) → p < k → among q (row p) ≡ true → child_of below p q ≡ true
  child_at p q h i = rw (row_at_lem p h) i

  pub child_in_row : (p q : ℕ) → p < k → child_of below p q ≡ true → among q (row p) ≡ true
  child_in_row p q h i = rw (row_at_lem p h) at i

  pub child_below : (p q : ℕ) → p < k → child_of below p q ≡ true → q < k
  child_below p q h i = omega (arith, below_long, child_in fit.groups.sound p q (omega (arith, below_long)) i)

  values_low : Below k (part work (children + k + 1) c)
  values_low = rows_below fit.groups.children_laid k (λ p h. in_below k (row p) (λ q i. child_below p q h (child_at p q h i)))

  -- all places are finished, children first
  vertices : Order (length (part work names n)) (part orders at n)
  vertices = rw (part_length work names n fit.groups.vertices.names_there.fits) fit.order

  pub finished_order : Order k (finished forest)
  finished_order =
      let S = fit.groups.sound in
      let o = vertices in
      subst (λ m. Order m (finished forest)) below_long
      (order_from (length below) _ (finished_once S (part orders at n) o) (finished_low S (part orders at n) o) (finished_all S (part orders at n) o))

  pub children_fall : (p q : ℕ) → p < k → child_of below p q ≡ true → position q (finished forest) < position p (finished forest)
  children_fall p q h i =
      let S = fit.groups.sound in
      let o = vertices in
      let l : p < length below = omega (arith, below_long) in
      omega (arith, (labelling_sound S (part orders at n) o).falls p q l i, e_is S (part orders at n) o p l, e_is S (part orders at n) o q (child_in S p q l i))

  -- s, m and e that meet the equations are the labelling
  pub labelling_is :
      (s m e : List ℕ) → length s ≡ k → length m ≡ k → length e ≡ k → ((p : ℕ) → p < k → get_or m p 0 ≡ suc (length (before p forest)))
      → ((p : ℕ) → p < k → get_or e p 0 ≡ suc (position p (finished forest)))
      → ((p : ℕ) → p < k → get_or s p 0 ≡ least (suc (position p (finished forest))) (map (λ q. get_or s q 0) (row p)))
      → record { s = s; m = m; e = e; by_rank = finished forest } ≡ labelling (groups_by work names n) below (part orders at n)
  labelling_is s m e s_long m_long e_long m-meets e-meets s_meets =
      labels_are_lem fit.groups.sound (part orders at n) vertices s m e (s_long ∙ sym below_long) (m_long ∙ sym below_long) (e_long ∙ sym below_long)
      (λ p h. m-meets p (omega (arith, below_long))) (λ p h. e-meets p (omega (arith, below_long)))
      (λ p h.
      let j : p < k = omega (arith, below_long) in
      s_meets p j ∙ ap (λ xs. least (suc (position p (finished forest))) (map (λ q. get_or s q 0) xs)) (sym (row_at_lem p j)))

  -- the places by rank of a labelling
  pub by_rank_is : (labelling (groups_by work names n) below (part orders at n)).by_rank ≡ finished forest
  unfolding labelling labels_by
  by_rank_is = refl

  -- the places by rank are there: k words before them can be filled upwards
  pub up_fits :
      {work' : List ℕ} {base' : ℕ} → Kept work work' base (labels_window n k c) → part work' (by_rank_at base n k c) k ≡ finished forest → base ≤ base' → base' + k ≤ by_rank_at base n k c
      → UpFit work' (by_rank_at base n k c) k children (children + k + 1) c base'
  up_fits K by_rank l h =
      let room : base + labels_window n k c ≤ length work = fit.groups.vertices.room in
      record {
        out_there = record { fits = omega (arith, K.long); apart = over h };
        starts_there = outside_within K.long l (omega arith) fit.groups.children_there.starts;
        values_there = outside_within K.long l (omega arith) fit.groups.children_there.values;
        order = rw by_rank finished_order;
        laid = rw (starts_same fit.groups.children_there K, values_same fit.groups.children_there K) fit.groups.children_laid;
        values_low = rw (values_same fit.groups.children_there K) values_low;
        falls = rw (starts_same fit.groups.children_there K, values_same fit.groups.children_there K, by_rank) (λ p q h i. children_fall p q h (child_at p q h i));
        room = omega (arith, K.long);
        few = fit.groups.few_groups;
      }
