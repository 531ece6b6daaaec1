-- What is lent right is refused by no check: edges between vertices have no bad end, and an order has every vertex. At a form of plain hierarchies the graph is one.
use mathlib.Core.Bool.{Bool, true, false, not}
use mathlib.Core.Path.{◌≡◌, ap, subst}
use mathlib.Core.List.{List, [], ◌++◌, map}
use Prim.Native.Nat.{ℕ, ◌≤◌, ◌<◌}
use native.Mathlib.Omega.{arith}
use lib.ListN.{length}
use borrow.Author.Tests.{le-ltb, eq-eqb, ne_eqb}
use Rattle.lineage.specs.Lists.{upto, any, among, Every}
use Rattle.lineage.specs.Graph.{Graph, Ends}
use Rattle.lineage.specs.Labels.{Order}
use Rattle.lineage.specs.Stored.{Form}
use Rattle.lineage.specs.Sound.{is_tree}
use Rattle.lineage.specs.Calls.{Input, order_at, orders_of, bad_edge, bad_order, built, length_of, build_early, build_late}
use Rattle.laws.proofs.Tests.{clash, is_false}
use Rattle.laws.proofs.Lists.{in_any, upto_low, table_long, table_at}
use Rattle.laws.proofs.Every.{every_at}
use Rattle.laws.proofs.Edges.{sources_below, targets_below}
use Rattle.laws.specs.Checks.{Pass}
use Rattle.laws.proofs.Checks.{pass_both}
use Rattle.build_orders.proofs.Edges.{good_edge}
use Rattle.build.specs.Admitted.{Admitted}
use Rattle.build.proofs.Tree.{passed_plain}

-- where each of the numbers below n fails a test, none passes
all_fail : (p : ℕ → Bool) (n : ℕ) → ((i : ℕ) → i < n → p i ≡ false) → any p (upto n) ≡ false
all_fail p n each = is_false (any p (upto n)) (λ t. let (i, j, y) = in_any p (upto n) t in clash y (each i (upto_low n i j)))

edges_good : (G : Graph) → Ends G → any (bad_edge G) (upto (length G.sources)) ≡ false
edges_good G ends =
    all_fail (bad_edge G) (length G.sources)
    (λ i h. good_edge G.n G.sources G.targets i (sources_below G ends i h) (targets_below G ends i (omega (arith, ends.paired))))

pub orders_good : (n d : ℕ) (orders : List ℕ) → Every (Order n) (map (order_at n orders) (upto d)) → any (bad_order n orders) (upto d) ≡ false
orders_good n d orders permuted =
    all_fail (bad_order n orders) d
    (λ j h.
    let order : Order n (order_at n orders j) =
    subst (Order n) (table_at (order_at n orders) d j [] h)
    (every_at (Order n) (map (order_at n orders) (upto d)) j [] permuted (omega (arith, table_long (order_at n orders) d))) in
    all_fail (λ v. not (among v (order_at n orders j))) n (λ v l. ap not (order.all v l)))

-- checks 1 to 7
pub early_accepted : (F : Form) (B : Input) (work : ℕ) → Admitted F B work → Pass (build_early F B work)
early_accepted F B work A =
    let G : Graph = B.graph in
    let some : B.d ≡ 0 → ⊥ = λ z. omega (arith, A.least) in (
      le-ltb F.vertices G.n A.vertices,
      (
        ap not (eq-eqb (length G.sources) (length G.targets) A.ends.paired),
        (
          le-ltb F.edges (length G.sources) A.edges,
          (
            rw (ne_eqb B.d 0 some) (le-ltb F.labellings B.d A.most),
            (ap not (eq-eqb (length B.orders) _ A.whole), (le-ltb work _ A.room, (edges_good G A.ends, tt))),
          ),
        ),
      ),
    )

pub accepted : (F : Form) (B : Input) (work out : ℕ)
    → Admitted F B work
    → Every (Order B.graph.n) (orders_of B)
    → (F.tree ≡ true → is_tree (built B).children ≡ true)
    → length_of F (built B) ≤ out
    → Pass (build_early F B work ++ build_late F B out)
accepted F B work out A permuted plain room =
    pass_both (build_early F B work) (build_late F B out) (early_accepted F B work A) (
      orders_good B.graph.n B.d B.orders permuted,
      (passed_plain F.tree (is_tree (built B).children) plain, (le-ltb out (length_of F (built B)) room, tt)),
    )
