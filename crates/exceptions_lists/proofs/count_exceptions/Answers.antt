-- `exceptions_lists::count_exceptions` meets its contract, by the invariant beside this file.
use mathlib.Core.Path.{◌≡◌, refl, ◌∙◌}
use Prim.Native.Nat.{◌+◌, ◌≤◌}
use native.Mathlib.Omega.{arith}
use lib.ListN.{length}
use Rattle.lineage.specs.Calls.{index_in}
use Rattle.numbers.specs.Bounds.{vertex_bound}
use Rattle.exceptions_marks.proofs.Fitted.{groups_many}
use Rattle.exceptions_lists.specs.Lists.{entries_to}
use Rattle.exceptions_lists.proofs.Ends.{entries_none, entries_more, entries_count, entries_few}
use Rattle.sound_places.proofs.Images.{sound_bytes}
use Rattle.exceptions_lists.proofs.count_exceptions.Goals as goal
use Rattle.exceptions_lists.proofs.count_exceptions.Goals.{After-count_row-count}

-- one list more
more : (c : After-count_row-count) → c.loop-x.count + c.count_row-count.result ≡ entries_to (index_in c.args.index.now.image.bytes.now) (c.loop-x.x + 1)
more c = omega (arith, c.count_row-count.ensures.value, c.loop-x.invariant.0, entries_more (index_in c.args.index.now.image.bytes.now) c.loop-x.x)

pub loop-x-init : goal.loop-x-init
loop-x-init c = (omega (arith, entries_none (index_in c.args.index.now.image.bytes.now)), refl)

pub overflow_add-count : goal.overflow_add-count
overflow_add-count c =
    let few : c.args.index.now.image.layout.k ≤ vertex_bound = omega (arith, c.args.index.now.image.laid) in
    omega (
      arith,
      more (goal.at.overflow_add-count c).After-count_row-count,
      c.loop-x-test.true,
      few,
      entries_few (index_in c.args.index.now.image.bytes.now) (omega (arith, groups_many (sound_bytes c.args.index.now), few)) (c.loop-x.x + 1),
    )

pub loop-x-preserved : goal.loop-x-preserved
loop-x-preserved c = (more (goal.at.loop-x-preserved c).After-count_row-count, c.count_row-count.ensures.marks_unchanged ∙ c.loop-x.invariant.1)

pub returns-clause-value : goal.returns-clause-value
returns-clause-value c =
    let end : c.loop-x.x ≡ length (index_in c.args.index.now.image.bytes.now).groups = omega (arith, c.loop-x.auto.x-end, c.loop-x-test.false, groups_many (sound_bytes c.args.index.now)) in
    c.loop-x.invariant.0 ∙ entries_count (index_in c.args.index.now.image.bytes.now) c.loop-x.x end
