-- `ask_walk::open_group` and `ask_walk::try_children` meet their contracts, by the measures and the invariant beside this file.
use Rattle.std.proofs.Common.{◌≡◌, ◌<◌, length, List, ℕ, ap, ◌∙◌, arith, set, length-set}
use Rattle.lineage.specs.Numbers.{num_at}
use Rattle.lineage.specs.Walk.{Net, Walked, try_at}
use Rattle.numbers.proofs.Numbers.{room}
use Rattle.ask_walk.specs.Fit.{Safe}
use Rattle.ask_walk.specs.Stamps.{seen_as}
use Rattle.ask_walk.proofs.Stamped.{seen_long, seen_kept, seen_not, seen_set, seen_other, under_set}
use Rattle.ask_walk.proofs.Rows.{row_below}
use Rattle.ask_walk.proofs.Nets.{net_marked, open_done, open_count}
use Rattle.ask_walk.proofs.Turns.{turns_over, Turn, turn_low, turn_level, turn_skip, turn_hit, turn_cut}
use Rattle.ask_walk.proofs.Turns.{Untold, turn_missed, turn_free, turn_count, turn_found, turn_safe, turn_next}
use Rattle.ask_walk.proofs.+open_group_try_children.Goals.{try_children-After-num-h, try_children-In-Neither}
use Rattle.ask_walk.proofs.+open_group_try_children.Goals.{try_children-then-not-skipped+in-Outside, try_children-then-not-skipped+in-Neither+else-a, try_children-else-not-skipped}
use Rattle.ask_walk.proofs.+open_group_try_children.Goals as goal

-- a stamp set is a mark set
stamped : (N : Net) (L : ℕ) (row : List ℕ) {a : Walked} (s : ℕ) (m : List ℕ) (i : ℕ) → a ≡ try_at N L row (seen_as s (set m i s)) → a ≡ try_at N L row (set (seen_as s m) i 1)
stamped N L row s m i e = e ∙ ap (try_at N L row) (seen_set s m i)

stamped_safe : (N : Net) (k s : ℕ) (m : List ℕ) (i : ℕ) → Safe N k (set (seen_as s m) i 1) → Safe N k (seen_as s (set m i s))
stamped_safe N k s m i S = rw (seen_set s m i) S

pub open_group-try_children-a-requires : goal.open_group-try_children-a-requires
open_group-try_children-a-requires t c =
    let F = c.args.walk.now.fit in
    let g = c.requires.fresh in
    let M = c.requires.marks in
    let safe =
    stamped_safe _ _ c.args.stamp c.args.marks.now c.num-name.result
    (net_marked F c.args.g c.num-name.result (seen_as c.args.stamp c.args.marks.now) g.low c.num-name.ensures.0 g.missed M.safe) in (
      omega arith,
      (
        simp length-set c.requires.marks_long,
        (row_below F _ g.low _ c.children_of-row.ensures _ g.level, record { under = under_set _ _ _ M.under; safe = safe }),
      ),
    )

pub open_group-overflow_add-result : goal.open_group-overflow_add-result
open_group-overflow_add-result t c =
    let F = c.args.walk.now.fit in
    let g = c.requires.fresh in
    let a = c.try_children-a in
    let fits =
    open_count F c.args.g _ c.args.lev _ (seen_as c.args.stamp c.args.marks.now) a.result.found a.result.deciding a.result.opened _ g.low
    c.num-name.ensures.0 c.children_of-row.ensures (stamped _ _ _ c.args.stamp c.args.marks.now _ a.ensures.marks_after)
    (seen_long _ c.args.marks.now ∙ c.requires.marks_long) (seen_other _ _ _ (omega (arith, F.name_low c.args.g g.low, c.requires.marks_long)) g.unmarked) in
    omega (arith, fits, c.requires.marks_long)

pub open_group-returns-clause-marks_after : goal.open_group-returns-clause-marks_after
open_group-returns-clause-marks_after t c =
    open_done c.args.walk.now.fit _ _ _ _ _ _ _ _ _ c.requires.fresh.low c.num-name.ensures.0 c.children_of-row.ensures
    (stamped _ _ _ c.args.stamp c.args.marks.now _ c.try_children-a.ensures.marks_after)

-- the marks stay as long as they are
kept : (t : ℕ) (c : try_children-After-num-h t) → length c.loop-i.marks ≡ length c.args.marks.now
kept t c = seen_kept c.args.stamp c.loop-i.marks c.args.marks.now c.loop-i.invariant.tried.long

-- a child's turn, once its number is read
turn :
    (t : ℕ) (c : try_children-After-num-h t)
    → Turn c.args.walk.now.width c.args.walk.now.k c.args.walk.now.d c.args.walk.now.t c.args.walk.now.groups.now c.args.walk.now.levels.now c.args.walk.now.starts.now c.args.walk.now.children.now c.args.walk.now.labels.now c.args.walk.now.marks
    c.args.lev c.args.row.now (seen_as c.args.stamp c.args.marks.now) (seen_as c.args.stamp c.loop-i.marks) c.loop-i.i c.loop-i.opened c.num-h.result
turn t c = record {
  fit = c.args.walk.now.fit;
  below = c.requires.below;
  tried = c.loop-i.invariant.tried;
  long = seen_long _ c.args.marks.now ∙ c.requires.marks_long;
  within = omega (arith, c.count-i-end.ensures);
  child = c.num-h.ensures.0;
  safe = c.loop-i.invariant.marked.safe;
}

-- a child that no test decides
untold :
    (t : ℕ) (c : try_children-In-Neither t)
    → Untold c.args.walk.now.width c.args.walk.now.k c.args.walk.now.d c.args.walk.now.t c.args.walk.now.groups.now c.args.walk.now.levels.now c.args.walk.now.labels.now (seen_as c.args.stamp c.loop-i.marks) c.num-h.result
untold t c = record {
  told = c.in-Neither.ensures;
  r = c.skipped.result;
  is = c.skipped.ensures;
  passes = c.if-not-skipped.true;
}

-- the child's mark is there
named : (t : ℕ) (c : try_children-After-num-h t) → num_at c.args.walk.now.width c.args.walk.now.groups.now c.num-h.result < length c.loop-i.marks
named t c = omega (arith, (turn t c).fit.name_low _ (turn_low (turn t c)), kept t c, c.requires.marks_long)

pub try_children-skipped-requires-clause-w_in_bounds : goal.try_children-skipped-requires-clause-w_in_bounds
try_children-skipped-requires-clause-w_in_bounds t c =
    let C = turn t (goal.at.try_children-skipped-requires-clause-w_in_bounds t c).After-num-h in
    let F = C.fit in
    let low = turn_low C in
    (room _ _ _ _ low F.groups_long, (room _ _ _ _ low F.levels_long, room _ _ _ _ F.target_low F.levels_long))

pub try_children-returns-in-Inside-clause-marks_after : goal.try_children-returns-in-Inside-clause-marks_after
try_children-returns-in-Inside-clause-marks_after t c =
    turn_hit (turn t (goal.at.try_children-returns-in-Inside-clause-marks_after t c).After-num-h) c.in-Inside.ensures

pub try_children-open_group-a-requires : goal.try_children-open_group-a-requires
try_children-open_group-a-requires t c =
    let P = goal.at.try_children-open_group-a-requires t c in
    let n = P.After-num-h in
    let C = turn t n in
    let U = untold t P.In-Neither in (
      omega (arith, turn_level C),
      (
        kept t n ∙ c.requires.marks_long,
        (
          record {
            low = turn_low C;
            level = omega (arith, turn_level C);
            unmarked = seen_not c.args.stamp c.loop-i.marks (num_at c.args.walk.now.width c.args.walk.now.groups.now c.num-h.result) (named t n) (turn_free C U);
            missed = turn_missed C U;
          },
          c.loop-i.invariant.marked,
        ),
      ),
    )

pub try_children-overflow_add-opened : goal.try_children-overflow_add-opened
try_children-overflow_add-opened t c =
    let P = goal.at.try_children-overflow_add-opened t c in
    omega (arith, c.requires.marks_long, turn_count (turn t P.After-num-h) (untold t P.In-Neither) c.open_group-a.ensures.marks_after)

pub try_children-returns-then-a-clause-marks_after : goal.try_children-returns-then-a-clause-marks_after
try_children-returns-then-a-clause-marks_after t c =
    let P = goal.at.try_children-returns-then-a-clause-marks_after t c in
    turn_found (turn t P.After-num-h) (untold t P.In-Neither) c.open_group-a.ensures.marks_after c.if-a.true

pub try_children-loop-i-preserved : goal.try_children-loop-i-preserved
try_children-loop-i-preserved t c =
    let n = (goal.at.try_children-loop-i-preserved t c).After-num-h in
    let C = turn t n in
    elim c.if-not-skipped.branch [
      | try_children-else-not-skipped w ↦ rw (w.marks-is, w.opened-is) (record { tried = turn_skip C c.skipped.ensures w.if-not-skipped.false; marked = c.loop-i.invariant.marked })
      | try_children-then-not-skipped+in-Outside w ↦ rw (w.marks-is, w.opened-is) (record { tried = turn_cut C w.in-Outside.ensures; marked = c.loop-i.invariant.marked })
      | try_children-then-not-skipped+in-Neither+else-a w ↦
          let U : Untold c.args.walk.now.width c.args.walk.now.k c.args.walk.now.d c.args.walk.now.t c.args.walk.now.groups.now c.args.walk.now.levels.now c.args.walk.now.labels.now (seen_as c.args.stamp c.loop-i.marks) c.num-h.result =
          record { told = w.in-Neither.ensures; r = c.skipped.result; is = c.skipped.ensures; passes = w.if-not-skipped.true } in
          rw (w.marks-is, w.opened-is)
          (
          record {
            tried = turn_next C U w.open_group-a.ensures.marks_after w.if-a.false;
            marked = record { under = w.open_group-a.ensures.under; safe = turn_safe C U w.open_group-a.ensures.marks_after };
          }
          )
    ]

pub try_children-returns-clause-marks_after : goal.try_children-returns-clause-marks_after
try_children-returns-clause-marks_after t c =
    turns_over c.args.walk.now.fit c.requires.below c.loop-i.invariant.tried (omega (arith, c.count-i-end.ensures))
