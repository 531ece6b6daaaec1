-- `reach_rounds::reach_over` meets its contract, by the invariant beside this file.
use mathlib.Core.Bool.{false}
use mathlib.Core.Path.{◌≡◌, sym, ap, ◌∙◌}
use Prim.Native.Nat.{ℕ}
use native.Mathlib.Omega.{arith}
use lib.Dec.{eqb}
use lib.ListN.{get_or}
use Rattle.lineage.specs.Calls.{index_in}
use Rattle.reach_rounds.specs.Rounds.{is_marked}
use Rattle.reach_rounds.proofs.Rounding.{rounding_last, rounding_hit, rounding_still, rounding_next, mark_yes, mark_no}
use Rattle.reach_rounds.proofs.Fitted.{swept_from_top, names_low, name_room, name_here, spread_here, led_here}
use Rattle.sound_places.proofs.Images.{sound_bytes}
use Rattle.reach_rounds.proofs.reach_over.Goals as goal
use Rattle.reach_rounds.proofs.reach_over.Goals.{Else-marks-name-eq1}

-- the target is not marked
miss : (e : Else-marks-name-eq1) → is_marked (index_in e.args.index.now.image.bytes.now).names e.sweep_down.new.marks e.args.target ≡ false
miss e = mark_no (index_in e.args.index.now.image.bytes.now).names e.sweep_down.new.marks e.args.target
    (name_here (sound_bytes e.args.index.now) e.names.ensures _ e.get-name.ensures.0) e.if-marks-name-eq1.false

pub bounds-marks-name : goal.bounds-marks-name
bounds-marks-name c =
    name_room (sound_bytes c.args.index.now) c.names.ensures _ c.requires.n_in_bounds.1 c.get-name.ensures.0
    (omega (arith, c.requires.n_in_bounds.0, c.loop-round.auto.marks, c.sweep_down.auto))

pub returns-then-marks-name-eq1 : goal.returns-then-marks-name-eq1
returns-then-marks-name-eq1 c =
    let hit = mark_yes (index_in c.args.index.now.image.bytes.now).names c.sweep_down.new.marks c.args.target
    (name_here (sound_bytes c.args.index.now) c.names.ensures _ c.get-name.ensures.0) c.if-marks-name-eq1.true in
    record {
      marks_after = rounding_hit c.loop-round.invariant (swept_from_top (sound_bytes c.args.index.now) _ c.sweep_down.ensures) hit;
      value = sym hit;
    }

pub spread-requires-clause-spots : goal.spread-requires-clause-spots
spread-requires-clause-spots c =
    names_low (sound_bytes c.args.index.now) c.names.ensures _ (omega (arith, c.requires.n_in_bounds.0, c.loop-round.auto.marks, c.sweep_down.auto))

pub returns-then-not-spread : goal.returns-then-not-spread
returns-then-not-spread c =
    let N = c.names.ensures in
    let absent = miss (goal.at.returns-then-not-spread c).Else-marks-name-eq1 in
    let (same, comes) =
    rounding_still c.loop-round.invariant (swept_from_top (sound_bytes c.args.index.now) _ c.sweep_down.ensures) absent
    (spread_here (sound_bytes c.args.index.now) N _ _ _ c.spread.ensures.marks_after) (omega arith)
    (sym (led_here (sound_bytes c.args.index.now) N _ _ _ c.spread.ensures.value) ∙ c.if-not-spread.true) in record
    { marks_after = comes; value = sym (ap (λ m. is_marked (index_in c.args.index.now.image.bytes.now).names m c.args.target) same ∙ absent) }

pub loop-round-preserved : goal.loop-round-preserved
loop-round-preserved c =
    let N = c.names.ensures in
    rounding_next c.loop-round.invariant (swept_from_top (sound_bytes c.args.index.now) _ c.sweep_down.ensures) (miss (goal.at.loop-round-preserved c).Else-marks-name-eq1)
    (spread_here (sound_bytes c.args.index.now) N _ _ _ c.spread.ensures.marks_after) (omega arith)
    (sym (led_here (sound_bytes c.args.index.now) N _ _ _ c.spread.ensures.value) ∙ c.if-not-spread.false)

pub bounds-marks-name-2 : goal.bounds-marks-name-2
bounds-marks-name-2 c =
    name_room (sound_bytes c.args.index.now) c.names.ensures _ c.requires.n_in_bounds.1 c.get-name.ensures.0
    (omega (arith, c.requires.n_in_bounds.0, c.loop-round.auto.marks, c.sweep_down-2.auto))

pub returns : goal.returns
returns c =
    record {
      marks_after = rounding_last c.loop-round.invariant (swept_from_top (sound_bytes c.args.index.now) _ c.sweep_down-2.ensures) (omega arith);
      value =
          ap (λ (x : ℕ). eqb (get_or c.sweep_down-2.new.marks x 0) 1)
          (name_here (sound_bytes c.args.index.now) c.names.ensures _ c.get-name.ensures.0);
    }
