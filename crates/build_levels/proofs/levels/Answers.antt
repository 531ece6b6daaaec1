-- `build_levels::levels` meets its contract, by the invariant beside this file.
use mathlib.Core.Path.{refl}
use native.Mathlib.Omega.{arith}
use Rattle.build_levels.proofs.Upwards.{Place, filling_place, row_slice, words_slice, filling_more, filling_all}
use Rattle.build_levels.proofs.Turns.{levels_count, places_below, level_is, level_small}
use Rattle.build_levels.proofs.levels.Goals as goal
use Rattle.build_levels.proofs.levels.Goals.{In-loop-r}

place : (c : In-loop-r) → let a = c.args in
    Place c.loop-r.work a.out a.rows.k a.rows.starts a.rows.values a.base c.loop-r.r
place c = filling_place c.requires c.loop-r.invariant c.loop-r-test.true

pub bounds-work-rows : goal.bounds-work-rows
bounds-work-rows c = (place (goal.at.bounds-work-rows c).In-loop-r).start_in_lem

pub bounds-work-rows-in-loop-r : goal.bounds-work-rows-in-loop-r
bounds-work-rows-in-loop-r c = (place (goal.at.bounds-work-rows-in-loop-r c).In-loop-r).end_in

pub slice_bounds-row-count : goal.slice_bounds-row-count
slice_bounds-row-count c = omega (arith, place (goal.at.slice_bounds-row-count c).In-loop-r)

pub slice_bounds-row-start : goal.slice_bounds-row-start
slice_bounds-row-start c = omega (arith, place (goal.at.slice_bounds-row-start c).In-loop-r)

pub slice_bounds-row-end : goal.slice_bounds-row-end
slice_bounds-row-end c = omega (arith, place (goal.at.slice_bounds-row-end c).In-loop-r)

pub row_level-requires : goal.row_level-requires
row_level-requires c =
    let f = c.requires in
    let i = c.loop-r.invariant in
    let h = c.loop-r-test.true in
    let P = row_slice f i h refl in
    record { below = places_below f i h P (words_slice f i h); by_index = level_small f i h P (words_slice f i h) }

pub bounds-work-base : goal.bounds-work-base
bounds-work-base c = omega (arith, place (goal.at.bounds-work-base c).In-loop-r)

pub loop-r-preserved : goal.loop-r-preserved
loop-r-preserved c =
    let f = c.requires in
    let i = c.loop-r.invariant in
    let h = c.loop-r-test.true in
    filling_more f i h (level_is f i h (row_slice f i h refl) (words_slice f i h) c.row_level.ensures) refl

pub returns : goal.returns
returns c = let both = filling_all c.requires c.loop-r.invariant (omega arith) (levels_count c.requires) in record { kept = both.0; k_after = both.1 }
