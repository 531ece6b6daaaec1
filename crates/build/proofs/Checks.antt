-- The tests of edges and orders by the first bad one, and what holds where checks 1 to 7 pass.
use mathlib.Core.Bool.{Bool, true, false}
use mathlib.Core.Path.{◌≡◌, sym, ◌∙◌}
use Prim.Native.Nat.{ℕ, ◌*◌, ◌<◌}
use native.Mathlib.Omega.{arith}
use native.Mathlib.Nat.{pos_of_ne-zero}
use lib.Dec.{eqb, ltb}
use lib.ListN.{length}
use borrow.Author.Tests.{ltb-false, eqb-true, eqb-false, not-false, lt-ltb, le-ltb}
use Rattle.std.specs.Prelude.{Option, Some, None}
use Rattle.lineage.specs.Lists.{upto, any, first_of}
use Rattle.lineage.specs.Graph.{Graph}
use Rattle.lineage.specs.Stored.{Form}
use Rattle.lineage.specs.Calls.{Input, work_needed, build_early}
use Rattle.laws.proofs.Tests.{or_false_left, or_false_right}
use Rattle.laws.specs.Checks.{Pass}
use Rattle.numbers.specs.Found.{found_below}
use Rattle.numbers.proofs.Found.{first_other, any_first, found_is, found_not}
use Rattle.build_orders.proofs.Edges.{ends_of}
use Rattle.build.specs.Admitted.{Admitted}

-- one of the numbers below n passes a test, or none does, by what a search returned
module _ (p : ℕ → Bool) (n : ℕ) {r : Option ℕ} (found : r ≡ found_below n (first_of p (upto n) n)) where
  module _ {first : ℕ} (some : r ≡ Some first) where
    is : (first ≡ first_of p (upto n) n) × (first < n)
    is = found_is p n (sym some ∙ found)

    pub some_low : first < n
    some_low = is.1

    pub any_some : any p (upto n) ≡ true
    any_some = any_first p n ∙ lt-ltb (first_of p (upto n) n) n (omega (arith, is))

    pub first_some : first ≡ first_of p (upto n) 0
    first_some = is.0 ∙ first_other p (upto n) n 0 any_some

  pub any_none_found : r ≡ None → any p (upto n) ≡ false
  any_none_found none = any_first p n ∙ le-ltb (first_of p (upto n) n) n (found_not p n (sym none ∙ found))

-- where none of 1 to 7 applies, all that they ask holds
pub admitted : (F : Form) (B : Input) (work : ℕ) → Pass (build_early F B work) → Admitted F B work
admitted F B work p =
    let G : Graph = B.graph in
    let some : B.d ≡ 0 → ⊥ = eqb-false B.d 0 (or_false_left (eqb B.d 0) (ltb F.labellings B.d) p.1.1.1.0) in
    let paired : length G.sources ≡ length G.targets =
    eqb-true (length G.sources) (length G.targets) (not-false (eqb (length G.sources) (length G.targets)) p.1.0) in
    record {
      vertices = ltb-false F.vertices G.n p.0;
      edges = ltb-false F.edges (length G.sources) p.1.1.0;
      ends = ends_of G paired p.1.1.1.1.1.1.0;
      least = pos_of_ne-zero some;
      most = ltb-false F.labellings B.d (or_false_right (eqb B.d 0) (ltb F.labellings B.d) p.1.1.1.0);
      whole = eqb-true (length B.orders) (B.d * G.n) (not-false (eqb (length B.orders) (B.d * G.n)) p.1.1.1.1.0);
      room = ltb-false work (work_needed G) p.1.1.1.1.1.0;
    }
