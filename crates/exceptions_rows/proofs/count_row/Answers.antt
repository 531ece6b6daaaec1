-- `exceptions_rows::count_row` meets its contract: the exceptions are counted as they are marked, and the marks cleared again are as they were.
use Rattle.reach.proofs.Fitted.{names_count}
use Rattle.exceptions_marks.proofs.Swept.{excepting_cleared}
use Rattle.sound_places.proofs.Images.{sound_bytes}
use Rattle.exceptions_rows.proofs.count_row.Goals as goal

pub returns-clause-marks_unchanged : goal.returns-clause-marks_unchanged
returns-clause-marks_unchanged c =
    excepting_cleared (names_count (sound_bytes c.args.index.now)) c.requires.marks_value c.mark_exceptions-count.ensures.excepting c.clear_marks.ensures
