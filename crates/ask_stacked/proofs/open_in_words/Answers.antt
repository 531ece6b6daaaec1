-- `ask_stacked::open_in_words` meets its contract, by the invariant beside this file.
use mathlib.Core.Path.{◌≡◌, sym, ◌∙◌}
use mathlib.Core.List.{List}
use Prim.Native.Nat.{ℕ, suc, ◌+◌, ◌-◌, ◌*◌, ◌^◌, ◌<◌}
use native.Mathlib.Omega.{arith}
use lib.ListN.{length}
use borrow.Author.Tests.{ne_eqb}
use Rattle.lineage.specs.Numbers.{num_at}
use Rattle.lineage.specs.Walk.{Net, Walked, open_at}
use Rattle.numbers.specs.Regions.{Kept}
use Rattle.numbers.proofs.Numbers.{room}
use Rattle.ask_walk.specs.Fit.{net_in}
use Rattle.ask_walk.specs.Stamps.{seen_as, Under}
use Rattle.ask_walk.proofs.Stamped.{seen_long, seen_other}
use Rattle.ask_walk.proofs.Turns.{Untold}
use Rattle.ask_stacked.proofs.Walking.{opening, count_fits, frame_room, walking_out, walking_end}
use Rattle.ask_stacked.proofs.Opening.{enter_asks, walking_first, opening_is}
use Rattle.ask_stacked.proofs.Turns.{Turn, turn_low, turn_room, turn_skip, turn_cut, turn_hit, turn_in, in_less}
use Rattle.ask_stacked.proofs.open_in_words.Goals as goal
use Rattle.ask_stacked.proofs.open_in_words.Goals.{After-num-h, At-loop-row, Then-depth-gt0, In-Neither}

-- the marks where the loop begins, the net, and the level of the first group
abbrev begun : (c : At-loop-row) → List ℕ
begun c = c.enter-row.new.marks

abbrev net : (c : At-loop-row) → Net
net c = let s = c.args in net_in s.w s.k s.d s.t s.groups.now s.levels.now s.starts.now s.children.now s.labels.now

abbrev level : (c : At-loop-row) → ℕ
level c = let s = c.args in num_at s.w s.levels.now s.g

-- marks stay as many as they are
kept : (c : At-loop-row) → length c.loop-row.marks ≡ length c.args.marks.now
kept c = sym (seen_long c.args.stamp c.loop-row.marks) ∙ c.loop-row.invariant.0.long ∙ c.enter-row.auto.marks

-- the walk is over
ended : (c : At-loop-row) → {a : Walked}
    → let s = c.args in
    a ≡ opening (net c) (level c) s.g (seen_as s.stamp (begun c))
    → (a ≡ open_at (net c) (level c + 1) s.g (seen_as s.stamp s.marks.now))
    × (Under (s.stamp + 1) c.loop-row.marks × Kept s.work.now c.loop-row.work 0 (2 * length s.marks.now))
ended c = λ e. (e ∙ opening_is c.requires.fit c.requires.fresh.low c.enter-row.ensures.entered _, (c.loop-row.invariant.1, rw c.enter-row.auto.marks at c.loop-row.invariant.0.kept))

turn : (c : After-num-h) → let s = c.args in
    Turn s.w s.k s.d s.t s.groups.now s.levels.now s.starts.now s.children.now s.labels.now (length c.enter-row.new.marks) (num_at s.w s.levels.now s.g)
    (opening (net_in s.w s.k s.d s.t s.groups.now s.levels.now s.starts.now s.children.now s.labels.now) (num_at s.w s.levels.now s.g) s.g (seen_as s.stamp c.enter-row.new.marks)) s.work.now (seen_as s.stamp c.loop-row.marks) c.loop-row.work c.loop-row.row c.loop-row.depth
    c.loop-row.opened c.num-h.result
turn c = record {
  fit = rw c.enter-row.auto.marks c.requires.fit;
  words = rw c.enter-row.auto.marks c.requires.marks_in_bounds;
  walking = c.loop-row.invariant.0;
  within = c.if-row.true;
  child = c.num-h.ensures.0;
}

-- the child's mark is there
named : (c : After-num-h) → num_at c.args.w c.args.groups.now c.num-h.result < length c.loop-row.marks
named c = omega (arith, c.requires.fit.name_low _ (turn_low (turn c)), sym (seen_long c.args.stamp c.loop-row.marks) ∙ c.loop-row.invariant.0.long ∙ c.enter-row.auto.marks)

untold : (c : In-Neither) → let s = c.args in
    Untold s.w s.k s.d s.t s.groups.now s.levels.now s.labels.now (seen_as s.stamp c.loop-row.marks) c.num-h.result
untold c = record {
  told = c.in-Neither.ensures;
  r = c.skipped.result;
  is = c.skipped.ensures;
  passes = c.if-not-skipped.true;
}

-- there are fewer opened groups than numbers
few : (c : At-loop-row) → c.loop-row.opened + 1 < 2 ^ 64
few c = omega (arith, count_fits c.loop-row.invariant.0, c.enter-row.auto.marks, c.requires.marks_in_bounds)

one_less : (c : Then-depth-gt0) → c.loop-row.depth ≡ suc (c.loop-row.depth - 1)
one_less c = omega arith

pub loop-row-init : goal.loop-row-init
loop-row-init c =
    let F = c.requires.fit in
    let g = c.requires.fresh in (
      walking_first (rw c.enter-row.auto.marks F) g.low c.enter-row.ensures.entered (seen_long _ c.args.marks.now ∙ sym c.enter-row.auto.marks)
          (ne_eqb _ _ (seen_other c.args.stamp c.args.marks.now _ (F.name_low _ g.low) g.unmarked)) g.missed c.requires.marks.safe,
      c.enter-row.ensures.under_2,
    )

pub skipped-requires : goal.skipped-requires
skipped-requires c =
    let F = c.requires.fit in
    let low = turn_low (turn (goal.at.skipped-requires c).After-num-h) in
    record {
      width = F.labelled.width;
      w_in_bounds = (room _ _ _ _ low F.groups_long, (room _ _ _ _ low F.levels_long, room _ _ _ _ F.target_low F.levels_long));
      h_in_bounds = named (goal.at.skipped-requires c).After-num-h;
    }

pub returns-in-Inside : goal.returns-in-Inside
returns-in-Inside c =
    let both = ended (goal.at.returns-in-Inside c).At-loop-row (turn_hit (turn (goal.at.returns-in-Inside c).After-num-h) c.in-Inside.ensures) in
    record {
      marks_after = both.0;
      under = both.1.0;
      kept = both.1.1;
    }

pub push-requires : goal.push-requires
push-requires c =
    let C = turn (goal.at.push-requires c).After-num-h in
    record {
      depth_in_bounds = turn_room C;
      next_bound = (omega (arith, C.within, C.walking.top.small), C.walking.top.small);
    }

pub enter-row-requires-in-Neither : goal.enter-row-requires-in-Neither
enter-row-requires-in-Neither c =
    let both = enter_asks c.requires.fit _ (turn_low (turn (goal.at.enter-row-requires-in-Neither c).After-num-h)) _ (kept (goal.at.enter-row-requires-in-Neither c).At-loop-row) c.loop-row.invariant.1 in
    record {
      width = both.0;
      w_in_bounds = both.1.0;
      g_bound = both.1.1.0;
      under = both.1.1.1;
    }

pub overflow_add-opened : goal.overflow_add-opened
overflow_add-opened c = omega (arith, few (goal.at.overflow_add-opened c).At-loop-row)

pub loop-row-preserved-in-Neither : goal.loop-row-preserved-in-Neither
loop-row-preserved-in-Neither c = (turn_in (turn (goal.at.loop-row-preserved-in-Neither c).After-num-h) (untold (goal.at.loop-row-preserved-in-Neither c).In-Neither) c.enter-row-in-Neither.ensures.entered c.push.ensures, c.enter-row-in-Neither.ensures.under_2)

pub loop-row-smaller-in-Neither : goal.loop-row-smaller-in-Neither
loop-row-smaller-in-Neither c = in_less (turn (goal.at.loop-row-smaller-in-Neither c).After-num-h) (untold (goal.at.loop-row-smaller-in-Neither c).In-Neither) c.enter-row-in-Neither.ensures.entered c.push.ensures

-- it is passed over
pub loop-row-preserved-in-Outside : goal.loop-row-preserved-in-Outside
loop-row-preserved-in-Outside c = (turn_cut (turn (goal.at.loop-row-preserved-in-Outside c).After-num-h) c.in-Outside.ensures, c.loop-row.invariant.1)

pub loop-row-preserved-else-not-skipped : goal.loop-row-preserved-else-not-skipped
loop-row-preserved-else-not-skipped c = (turn_skip (turn (goal.at.loop-row-preserved-else-not-skipped c).After-num-h) c.skipped.ensures (c.if-not-skipped.false), c.loop-row.invariant.1)

pub frame-row-requires : goal.frame-row-requires
frame-row-requires c = frame_room c.loop-row.invariant.0 (rw c.enter-row.auto.marks c.requires.marks_in_bounds) (c.loop-row.depth - 1) (omega arith)

pub loop-row-preserved : goal.loop-row-preserved
loop-row-preserved c = (walking_out c.loop-row.invariant.0 c.if-row.false _ (one_less (goal.at.loop-row-preserved c).Then-depth-gt0) c.frame-row.ensures.0 c.frame-row.ensures.1, c.loop-row.invariant.1)

pub returns-else-depth-gt0 : goal.returns-else-depth-gt0
returns-else-depth-gt0 c =
    let both = ended (goal.at.returns-else-depth-gt0 c).At-loop-row (walking_end c.loop-row.invariant.0 c.if-row.false (omega arith)) in
    record {
      marks_after = both.0;
      under = both.1.0;
      kept = both.1.1;
    }
