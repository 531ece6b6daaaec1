-- `build_orders::bad_edge` meets its contract: `position` looks through the edges, each a source beside its target, and an edge is bad where an end is n or more.
use mathlib.Core.Bool.{Bool, ◌||◌}
use mathlib.Core.Path.{◌≡◌, sym, ap, ◌∙◌}
use Prim.Native.Nat.{ℕ}
use native.Mathlib.Omega.{arith}
use lib.Dec.{leb}
use lib.ListN.{length}
use Rattle.std.proofs.Common.{rules, tests}
use Rattle.std.specs.List.{zip}
use Rattle.std.proofs.lemmas.Slice.Zip.{get_or-zip, length-zip}
use Rattle.std.proofs.lemmas.Iterator.{YieldsList-from_slice, YieldsList-from_zip}
use Rattle.std.proofs.lemmas.Iterator.Search.{position_from_yields_List}
use Rattle.lineage.specs.Lists.{upto, first_of}
use Rattle.lineage.specs.Calls.{bad_edge}
use Rattle.build_orders.specs.Input.{graph_of}
use Rattle.numbers.specs.Found.{found_below}
use Rattle.numbers.proofs.Found.{position_found}
use Rattle.build_orders.proofs.bad_edge.Goals as goal

pub returns : goal.returns
returns c =
    let n = c.args.n in
    let sources = c.args.sources.now in
    let targets = c.args.targets.now in
    let bad : ℕ × ℕ → Bool = λ e. leb n e.0 || leb n e.1 in
    let paired : length (zip sources targets) ≡ length sources = omega (arith, length-zip sources targets, c.requires) in
    position_from_yields_List bad c.position.new.self _ c.position.result c.position.ensures.ran
    (YieldsList-from_zip (YieldsList-from_slice sources cc) (YieldsList-from_slice targets cc)) (λ x b q k. search (rules, tests))
    ∙ position_found bad (bad_edge (graph_of n sources targets)) (zip sources targets) (0, 0)
    (λ i h. ap bad (sym (get_or-zip sources targets i (0, 0) (omega (arith, paired)) (omega (arith, paired, c.requires)))))
    ∙ ap (λ k. found_below k (first_of (bad_edge (graph_of n sources targets)) (upto k) k)) paired
