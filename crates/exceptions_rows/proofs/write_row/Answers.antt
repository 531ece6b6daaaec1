-- `exceptions_rows::write_row` meets its contract: the exceptions are marked and counted, their entries written where there are any, and the marks cleared again.
use mathlib.Core.Path.{◌≡◌}
use mathlib.Core.List.{List}
use Prim.Native.Nat.{ℕ, ◌*◌}
use native.Mathlib.Omega.{arith}
use lib.ListN.{length}
use Rattle.lineage.specs.Calls.{index_in}
use Rattle.laws_exceptions.specs.Exceptions.{entries_of}
use Rattle.reach.proofs.Fitted.{names_count}
use Rattle.exceptions_marks.proofs.Swept.{excepting_cleared}
use Rattle.exceptions_rows.proofs.Given.{entries_many}
use Rattle.exceptions_rows.proofs.Putting.{putting_nothing}
use Rattle.sound_places.proofs.Images.{sound_bytes}
use Rattle.exceptions_rows.proofs.write_row.Goals as goal
use Rattle.exceptions_rows.proofs.write_row.Goals.{After-mark_exceptions-count, Start, then-count-ne0, else-count-ne0}

abbrev row : (s : Start) → List ℕ
row s = entries_of (index_in s.args.index.now.image.bytes.now) s.args.x

counted : (m : After-mark_exceptions-count) → m.mark_exceptions-count.result ≡ length ((entries_of (index_in m.args.index.now.image.bytes.now) m.args.x))
counted m = entries_many _ _ m.mark_exceptions-count.ensures.value

pub returns-clause-out_after : goal.returns-clause-out_after
returns-clause-out_after c =
    elim c.if-count-ne0.branch [ then-count-ne0 w ↦ rw w.out-is w.write_marked.ensures | else-count-ne0 w ↦ rw w.out-is (putting_nothing c.args.out.now (4 * c.args.at) (row (goal.at.returns-clause-out_after c).Start) (omega (arith, counted (goal.at.returns-clause-out_after c).After-mark_exceptions-count, w.if-count-ne0.false))) ]

pub returns-clause-marks_unchanged : goal.returns-clause-marks_unchanged
returns-clause-marks_unchanged c =
    excepting_cleared (names_count (sound_bytes c.args.index.now)) c.requires.marks_value c.mark_exceptions-count.ensures.excepting c.clear_marks.ensures
