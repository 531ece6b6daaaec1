-- `build_orders::ranked` meets its contract, by the invariant beside this file.
use native.Mathlib.Omega.{arith}
use Rattle.build_orders.proofs.Ranking.{Vertex, ranking_none, ranking_vertex, ranking_more, ranking_past, ranking_all}
use Rattle.build_orders.proofs.ranked.Goals as goal
use Rattle.build_orders.proofs.ranked.Goals.{In-loop-j, then-name-v, else-name-v}

-- the vertex at hand
vertex : (c : In-loop-j) → let a = c.args in
    Vertex a.orders.now c.loop-j.work a.at a.names a.place c.loop-j.j
vertex c = ranking_vertex c.requires c.loop-j.invariant c.loop-j-test.true

pub loop-j-init : goal.loop-j-init
loop-j-init c = ranking_none _ _ _ _ _ _

pub bounds-work-names : goal.bounds-work-names
bounds-work-names c = (vertex (goal.at.bounds-work-names c).In-loop-j).name_in

pub bounds-work-place : goal.bounds-work-place
bounds-work-place c = (vertex (goal.at.bounds-work-place c).In-loop-j).place_in_lem

pub loop-j-preserved : goal.loop-j-preserved
loop-j-preserved c =
    let f = c.requires in
    let i = c.loop-j.invariant in
    let h = c.loop-j-test.true in
    elim c.if-name-v.branch [ then-name-v w ↦ ranking_more f i h w.if-name-v.true w.k-is | else-name-v w ↦ ranking_past f i h w.if-name-v.false w.k-is ]

pub shape_of-work : goal.shape_of-work
shape_of-work c = c.loop-j.invariant.written.kept.long

pub returns : goal.returns
returns c = let both = ranking_all (omega arith) c.loop-j.invariant in record { kept = both.0; upper_bound = both.1.0; result_after = both.1.1 }
