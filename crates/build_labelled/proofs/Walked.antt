-- One labelling, from pass to pass. The parents' rows turned over the order are each group's children in the order, and a group whose row of parents is empty is
-- nobody's child: so the traversal of these rows from these groups is the one that defines the labelling. What is read of the groups lies outside the window throughout.
use mathlib.Core.Bool.{true}
use mathlib.Core.Path.{◌≡◌, sym, ap, ap₂, ◌∙◌, subst}
use mathlib.Core.List.{List, [], map}
use Prim.Native.Nat.{ℕ, suc, ◌+◌, ◌*◌, ◌≤◌, ◌<◌}
use native.Mathlib.Omega.{arith}
use lib.ListN.{length, get_or}
use Rattle.lineage.specs.Lists.{among, those, position, least, part}
use Rattle.lineage.specs.Labels.{Order, finished, traverse, nobodys_child, forest_of}
use Rattle.lineage.specs.Sound.{child_of}
use Rattle.laws.specs.Laid.{Below}
use Rattle.laws.proofs.Lists.{those_pass, those_keep}
use Rattle.laws.proofs.Positions.{least_same}
use Rattle.laws.proofs.Parts.{part_length}
use Rattle.laws.proofs.Laid.{in_below}
use Rattle.numbers.specs.Regions.{Kept, under}
use Rattle.numbers.proofs.Regions.{kept_then, kept_wider}
use Rattle.build_rows.specs.Rows.{RowsAt, rows_in}
use Rattle.build_rows.proofs.Orders.{order_low}
use Rattle.build_traversal.specs.Traversed.{Downhill, Traversed}
use Rattle.build_traversal.specs.Fit.{TraverseFit}
use Rattle.build_traversal.proofs.Reach.{rows_low, traverse_same}
use Rattle.build_orders.proofs.Parents.{roots_are}
use Rattle.build_children.proofs.Rows.{once_turned, those_below}
use Rattle.build_labelled.specs.Window.{roots_at, ordered_at, walk_at, by_rank_at, labels_window, OrderRows, Labelled}
use Rattle.build_labelled.specs.Fit.{OrderFit, LabelFit}
use Rattle.build_labelled.proofs.Ordered.{ranked_order}
use Rattle.build_labelled.proofs.Forest.{below, ranked, forest, row, below_long, child_at, child_in_row, child_below, finished_order, children_fall, labelling_is}

module _ {orders work₀ : List ℕ} {at n k c names place parents children base : ℕ} (fit : LabelFit orders work₀ at n k c names place parents children base) where
  places : Order k (ranked fit)
  places = ranked_order fit.groups.vertices (part orders at n) fit.order

  ranked_low : (q : ℕ) → among q (ranked fit) ≡ true → q < k
  ranked_low = order_low k (ranked fit) places

  pub order_fits : OrderFit orders work₀ at n k c names place parents base
  order_fits = record {
    inside = fit.inside;
    order = fit.order;
    vertices = fit.groups.vertices;
    parents_there = fit.groups.parents_there;
    parents_laid = fit.groups.parents_are.laid;
    parents_low = fit.groups.parents_are.low;
    few = fit.groups.few_children;
  }

  -- the order is gone through
  module _ {work₁ : List ℕ} {q : ℕ} (ordered : OrderRows (part orders at n) work₀ work₁ n k c names parents base q) where
    abbrev rows_from : ℕ
    rows_from = ordered_at base n k

    abbrev roots : List ℕ
    roots = part work₁ (roots_at base n) q

    long₁ : base + labels_window n k c ≤ length work₁
    long₁ = omega (arith, fit.groups.vertices.room, ordered.kept.long)

    rows : RowsAt work₁ rows_from k c (λ p. those (λ x. child_of (below fit) p x) (ranked fit))
    rows = once_turned fit.groups.parents_are places ordered.rows

    values_low : Below k (part work₁ (rows_from + k + 1) c)
    values_low = those_below (λ p x. child_of (below fit) p x) (ranked fit) places rows

    roots_is : roots ≡ those (nobodys_child (below fit)) (ranked fit)
    roots_is = ordered.roots ∙ roots_are (below fit) (below_long fit) fit.groups.parents_are (ranked fit) ranked_low

    roots_low : (x : ℕ) → among x roots ≡ true → x < k
    roots_low x i = ranked_low x (those_pass (nobodys_child (below fit)) x (ranked fit) (rw roots_is at i)).1

    pub traverse_fits : TraverseFit work₁ rows_from (rows_from + k + 1) c (roots_at base n) q k (walk_at base n k c) (7 * k)
    traverse_fits = record {
      laid = rows.laid;
      values_low = values_low;
      roots_low = in_below k roots roots_low;
      starts_there = record { fits = omega (arith, long₁); apart = under (omega arith) };
      values_there = record { fits = omega (arith, long₁); apart = under (omega arith) };
      roots_there = record { fits = omega (arith, long₁, ordered.few); apart = under (omega (arith, ordered.few)) };
      room = omega (arith, long₁);
      frames_room = omega arith;
      few_values = fit.groups.few_children;
      few_roots = omega (arith, ordered.few, fit.groups.few_groups);
      few = fit.groups.few_groups;
    }

    -- the traversal of the rows is the one that defines the labelling
    forest_is : traverse (rows_in work₁ rows_from (rows_from + k + 1) c k) (suc k) roots [] ≡ forest fit
    unfolding forest_of
    forest_is =
        traverse_same k roots rows.row_is (rows_low _ _ values_low) (λ p x i. ranked_low x (those_pass (child_of (below fit) p) x (ranked fit) i).1) roots_low
        ∙ ap₂ (λ m xs. traverse (λ p. those (λ x. child_of (below fit) p x) (ranked fit)) (suc m) xs []) (sym (below_long fit)) roots_is

    -- the children fall along these rows
    downhill : Downhill (rows_in work₁ rows_from (rows_from + k + 1) c k) k
    downhill = record {
      height = λ p. position p (finished (forest fit));
      falls = λ p x h i. children_fall fit p x h (those_pass (child_of (below fit) p) x (ranked fit) (rw (rows.row_is p h) at i)).0;
    }

    -- it is gone through, and its labels are the labelling
    pub labelled :
        {work₂ : List ℕ} {r : ℕ} → Kept work₁ work₂ (walk_at base n k c) (7 * k)
        → Traversed (rows_in work₁ rows_from (rows_from + k + 1) c k) (traverse (rows_in work₁ rows_from (rows_from + k + 1) c k) (suc k) roots []) work₂ (walk_at base n k c) k r
        → Labelled (part orders at n) work₀ work₂ n k c names children base
    labelled {work₂} {r} walking traversed = record {
      kept = kept₂;
      made = ap (λ z. record { s = s; m = m; e = e; by_rank = z }) by_rank ∙ labelling_is fit s m e (long walk (omega arith)) (long (walk + 5 * k) (omega arith)) (long (walk + 6 * k) (omega arith))
          (λ p h. T.m p (visited p h)) (λ p h. T.e p (visited p h)) (λ p h. T.s downhill p (visited p h) ∙ same_row p h);
    }
      where
        walk : ℕ
        walk = walk_at base n k c

        s : List ℕ
        s = part work₂ walk k

        m : List ℕ
        m = part work₂ (walk + 5 * k) k

        e : List ℕ
        e = part work₂ (walk + 6 * k) k

        kept₂ : Kept work₀ work₂ base (labels_window n k c)
        kept₂ = kept_then ordered.kept (kept_wider base (labels_window n k c) (omega arith) (omega arith) walking)

        long₂ : base + labels_window n k c ≤ length work₂
        long₂ = omega (arith, fit.groups.vertices.room, kept₂.long)

        T : Traversed (rows_in work₁ rows_from (rows_from + k + 1) c k) (forest fit) work₂ walk k r
        T = subst (λ F. Traversed (rows_in work₁ rows_from (rows_from + k + 1) c k) F work₂ walk k r) forest_is traversed

        long : (b : ℕ) → b + k ≤ base + labels_window n k c → length (part work₂ b k) ≡ k
        long b h = part_length work₂ b k (omega (arith, long₂))

        visited : (p : ℕ) → p < k → among p (finished (forest fit)) ≡ true
        visited = (finished_order fit).all

        count : r ≡ k
        count = sym (part_length work₂ (by_rank_at base n k c) r (omega (arith, long₂, T.most))) ∙ ap length T.out ∙ (finished_order fit).long

        by_rank : part work₂ (by_rank_at base n k c) k ≡ finished (forest fit)
        by_rank = subst (λ z. part work₂ (by_rank_at base n k c) z ≡ finished (forest fit)) count T.out

        -- a row of the order has the children's numbers
        same_row :
            (p : ℕ) → p < k
            → least (suc (position p (finished (forest fit)))) (map (λ q. get_or s q 0) (rows_in work₁ rows_from (rows_from + k + 1) c k p))
            ≡ least (suc (position p (finished (forest fit)))) (map (λ q. get_or s q 0) (row fit p))
        same_row p h =
            least_same (λ q. get_or s q 0) (suc (position p (finished (forest fit)))) (rows_in work₁ rows_from (rows_from + k + 1) c k p) (row fit p)
            (λ q i. child_in_row fit p q h (those_pass (child_of (below fit) p) q (ranked fit) (rw (rows.row_is p h) at i)).0)
            (λ q i. rw (rows.row_is p h) (those_keep (child_of (below fit) p) q (ranked fit) (child_at fit p q h i) (places.all q (row_low p q h i))))
          where
            row_low : (p q : ℕ) → p < k → among q (row fit p) ≡ true → q < k
            row_low p q h i = child_below fit p q h (child_at fit p q h i)
