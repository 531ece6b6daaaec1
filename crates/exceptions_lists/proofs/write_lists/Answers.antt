-- `exceptions_lists::write_lists` meets its contract, by the invariant beside this file.
use mathlib.Core.Path.{refl, sym, ◌∙◌}
use Prim.Native.Nat.{◌+◌, ◌*◌, ◌≤◌}
use native.Mathlib.Omega.{arith}
use lib.ListN.{length}
use Rattle.lineage.specs.Calls.{index_in}
use Rattle.exceptions_marks.proofs.Fitted.{groups_many}
use Rattle.exceptions_lists.specs.Lists.{entries_to}
use Rattle.exceptions_lists.proofs.Ends.{entries_count, marks_still}
use Rattle.exceptions_lists.proofs.Writing.{writing_none, writing_fits, writing_more, writing_all}
use Rattle.sound_places.proofs.Images.{sound_bytes}
use Rattle.exceptions_lists.proofs.write_lists.Goals as goal
use Rattle.exceptions_lists.proofs.write_lists.Goals.{Start}

room : (s : Start) → 4 * (s.args.index.now.image.layout.k + 3 + entries_to (index_in s.args.index.now.image.bytes.now) s.args.index.now.image.layout.k) ≤ length s.args.out.now
room s = omega (arith, s.requires.index_in_bounds, entries_count (index_in s.args.index.now.image.bytes.now) s.args.index.now.image.layout.k (sym (groups_many (sound_bytes s.args.index.now))))

pub loop-x-init : goal.loop-x-init
loop-x-init c = (writing_none _ _ _, refl)

pub write_row-at-requires-clause-x_in_bounds : goal.write_row-at-requires-clause-x_in_bounds
write_row-at-requires-clause-x_in_bounds c =
    let m = marks_still _ _ c.loop-x.invariant.1 c.requires.n_in_bounds in
    writing_fits (room (goal.at.write_row-at-requires-clause-x_in_bounds c).Start) c.loop-x.invariant.0 c.loop-x-test.true

pub loop-x-preserved : goal.loop-x-preserved
loop-x-preserved c = (
  writing_more (room (goal.at.loop-x-preserved c).Start) c.loop-x.invariant.0 c.loop-x-test.true c.write_row-at.ensures.out_after c.write_row-at.auto.out c.write_row-at.ensures.value refl c.put_at.ensures
      c.put_at.auto.out,
  c.write_row-at.ensures.marks_unchanged ∙ c.loop-x.invariant.1,
)

pub returns-clause-out_after : goal.returns-clause-out_after
returns-clause-out_after c =
    let K = c.loop-x.invariant.0 in
    writing_all (room (goal.at.returns-clause-out_after c).Start) K (omega (arith, K.within, c.loop-x-test.false)) (sym (groups_many (sound_bytes c.args.index.now)))
