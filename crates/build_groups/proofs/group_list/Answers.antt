-- `build_groups::group_list` meets its contract, by the invariant beside this file.
use mathlib.Core.Path.{refl}
use native.Mathlib.Omega.{arith}
use lib.ListN.{length-set}
use Rattle.build_groups.proofs.Listing.{Vertex, listing_none, listing_vertex, listing_copied, name_is, listing_own, listing_other, listing_all}
use Rattle.build_groups.proofs.group_list.Goals as goal
use Rattle.build_groups.proofs.group_list.Goals.{then-own-v, else-own-v, In-loop-v}

-- the vertex at hand
vertex : (c : In-loop-v) → let a = c.args in
    Vertex c.loop-v.work a.names a.n a.base c.loop-v.v c.loop-v.k
vertex c = listing_vertex c.requires c.loop-v.invariant c.loop-v-test.true

pub loop-v-init : goal.loop-v-init
loop-v-init c = listing_none _ _ _ _

pub bounds-work-places-else-own-v : goal.bounds-work-places-else-own-v
bounds-work-places-else-own-v c = simp length-set (omega (arith, vertex (goal.at.bounds-work-places-else-own-v c).In-loop-v))

pub loop-v-preserved : goal.loop-v-preserved
loop-v-preserved c =
    let f = c.requires in
    let h = c.loop-v-test.true in
    let name = name_is f c.loop-v.invariant h in
    let i = listing_copied f c.loop-v.invariant h refl in
    elim c.if-own-v.branch [
      | then-own-v w ↦ listing_own f i h _ name refl w.if-own-v.true w.work-is w.k-is
      | else-own-v w ↦ listing_other f i h _ name refl w.if-own-v.false w.work-is w.k-is
    ]

pub shape_of-work : goal.shape_of-work
shape_of-work c = c.loop-v.invariant.kept.long

pub returns : goal.returns
returns c =
    let both = listing_all c.requires (omega arith) c.loop-v.invariant in
    record { kept = both.0; upper_bound = both.1.0; n_after = both.1.1.0; result_after = both.1.1.1.0; n_after_2 = both.1.1.1.1 }
