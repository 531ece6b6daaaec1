-- `exceptions_rows::write_marked` meets its contract, by the invariant beside this file.
use Prim.Native.Nat.{◌+◌, ◌*◌, ◌≤◌, ◌<◌}
use native.Mathlib.Omega.{arith}
use lib.ListN.{length}
use Rattle.lineage.specs.Calls.{index_in}
use Rattle.exceptions_marks.proofs.Fitted.{groups_many}
use Rattle.exceptions_rows.proofs.Given.{told_entry, told_none}
use Rattle.exceptions_rows.proofs.Putting.{putting_none, putting_over, putting_fits, putting_more, putting_all}
use Rattle.sound_places.proofs.Images.{sound_bytes}
use Rattle.exceptions_rows.proofs.write_marked.Goals as goal
use Rattle.exceptions_rows.proofs.write_marked.Goals.{In-loop-y, In-Some, in-Some, in_default}

in_groups : (i : In-loop-y) → i.loop-y.y < length (index_in i.args.index.now.image.bytes.now).groups
in_groups i = omega (arith, i.loop-y-test.true, groups_many (sound_bytes i.args.index.now))

-- there is room for the entry at hand, so its number is no more than a length can be
fits : (t : In-Some) → 4 * t.loop-y.at + 4 ≤ length t.loop-y.out
fits t =
    putting_fits t.requires.x_in_bounds t.loop-y.invariant (told_entry _ _ _ t.entry_at.ensures t.in-Some.is).0
    (omega (arith, t.loop-y-test.true, groups_many (sound_bytes t.args.index.now)))

pub loop-y-init : goal.loop-y-init
loop-y-init c = putting_none _ _ _ _

pub overflow_mul-at : goal.overflow_mul-at
overflow_mul-at c = omega (arith, fits (goal.at.overflow_mul-at c).In-Some)

pub put_at-requires-clause-w_in_bounds : goal.put_at-requires-clause-w_in_bounds
put_at-requires-clause-w_in_bounds c = fits (goal.at.put_at-requires-clause-w_in_bounds c).In-Some

pub overflow_add-at : goal.overflow_add-at
overflow_add-at c = omega (arith, fits (goal.at.overflow_add-at c).In-Some)

pub loop-y-preserved : goal.loop-y-preserved
loop-y-preserved c =
    elim c.match-entry_at.branch [
      | in-Some w ↦
          let (t, is) = told_entry _ _ _ c.entry_at.ensures w.in-Some.is in
          rw (w.out-is, w.at-is)
          (putting_more c.requires.x_in_bounds c.loop-y.invariant t (in_groups (goal.at.loop-y-preserved c).In-loop-y) is w.put_at.ensures w.put_at.auto.out)
      | in_default w ↦ rw (w.out-is, w.at-is) (putting_over c.requires.x_in_bounds c.loop-y.invariant (told_none _ _ _ c.entry_at.ensures w.in_default.not-Some))
    ]

pub returns : goal.returns
returns c = putting_all c.requires.x_in_bounds c.loop-y.invariant (omega (arith, c.loop-y.auto.y-end, c.loop-y-test.false, groups_many (sound_bytes c.args.index.now)))
