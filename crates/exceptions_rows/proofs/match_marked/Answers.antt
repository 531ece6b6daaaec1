-- `exceptions_rows::match_marked` meets its contract, by the invariant beside this file.
use Prim.Native.Nat.{◌+◌, ◌*◌, ◌≤◌, ◌<◌}
use native.Mathlib.Omega.{arith}
use lib.ListN.{length}
use Rattle.lineage.specs.Calls.{index_in}
use Rattle.exceptions_marks.proofs.Fitted.{groups_many}
use Rattle.exceptions_rows.proofs.Given.{told_entry, told_none}
use Rattle.exceptions_rows.proofs.Comparing.{comparing_none, comparing_over, comparing_fits, comparing_more, comparing_not, comparing_all}
use Rattle.sound_places.proofs.Images.{sound_bytes}
use Rattle.exceptions_rows.proofs.match_marked.Goals as goal
use Rattle.exceptions_rows.proofs.match_marked.Goals.{In-loop-y, In-Some, in-Some+else-num-v, in_default}

in_groups : (i : In-loop-y) → i.loop-y.y < length (index_in i.args.index.now.image.bytes.now).groups
in_groups i = omega (arith, i.loop-y-test.true, groups_many (sound_bytes i.args.index.now))

-- there is a number to compare the entry at hand with
fits : (t : In-Some) → 4 * t.loop-y.at + 4 ≤ length t.args.lists.now
fits t =
    comparing_fits t.loop-y.invariant (told_entry _ _ _ t.entry_at.ensures t.in-Some.is).0 (omega (arith, t.loop-y-test.true, groups_many (sound_bytes t.args.index.now)))
    t.requires.x_in_bounds

pub loop-y-init : goal.loop-y-init
loop-y-init c = comparing_none _ _ _ _

pub num-requires-clause-w_in_bounds : goal.num-requires-clause-w_in_bounds
num-requires-clause-w_in_bounds c = fits (goal.at.num-requires-clause-w_in_bounds c).In-Some

pub returns-then-num-v : goal.returns-then-num-v
returns-then-num-v c =
    let (t, is) = told_entry _ _ _ c.entry_at.ensures c.in-Some.is in
    comparing_not c.loop-y.invariant t (in_groups (goal.at.returns-then-num-v c).In-loop-y) c.num.ensures.0 is c.if-num-v.true

pub loop-y-preserved : goal.loop-y-preserved
loop-y-preserved c =
    elim c.match-entry_at.branch [
      | in-Some+else-num-v w ↦
          let (t, is) = told_entry _ _ _ c.entry_at.ensures w.in-Some.is in
          rw w.at-is (comparing_more c.loop-y.invariant t (in_groups (goal.at.loop-y-preserved c).In-loop-y) w.num.ensures.0 is w.if-num-v.false)
      | in_default w ↦ rw w.at-is (comparing_over c.loop-y.invariant (told_none _ _ _ c.entry_at.ensures w.in_default.not-Some))
    ]

pub returns : goal.returns
returns c = comparing_all c.loop-y.invariant (omega (arith, c.loop-y.auto.y-end, c.loop-y-test.false, groups_many (sound_bytes c.args.index.now)))
