-- `exceptions_rows::match_row` meets its contract: the exceptions are marked and counted, their entries compared, and the marks cleared again.
use mathlib.Core.Path.{◌≡◌}
use Rattle.reach.proofs.Fitted.{names_count}
use Rattle.exceptions_marks.proofs.Swept.{excepting_cleared}
use Rattle.sound_places.proofs.Images.{sound_bytes}
use Rattle.exceptions_rows.proofs.match_row.Goals as goal
use Rattle.exceptions_rows.proofs.match_row.Goals.{After-mark_exceptions-count, After-clear_marks, Start}

marks_back : (c : After-clear_marks) → c.clear_marks.new.marks ≡ c.args.marks.now
marks_back c = excepting_cleared (names_count (sound_bytes c.args.index.now)) c.requires.marks_value c.mark_exceptions-count.ensures.excepting c.clear_marks.ensures

pub returns-then-not-same-clause-marks_unchanged : goal.returns-then-not-same-clause-marks_unchanged
returns-then-not-same-clause-marks_unchanged c =
    marks_back (goal.at.returns-then-not-same-clause-marks_unchanged c).After-clear_marks

pub returns-clause-marks_unchanged : goal.returns-clause-marks_unchanged
returns-clause-marks_unchanged c =
    marks_back (goal.at.returns-clause-marks_unchanged c).After-clear_marks
