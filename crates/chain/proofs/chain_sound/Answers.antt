-- `chain::chain_sound` meets its contract: the climb from the target's group alone marks exactly what reaches it, the steps are traced over these marks, and
-- cleared again the marks are as they were.
use Rattle.chain.proofs.Fitted.{reaching_exactly, marks_again}
use Rattle.sound_places.proofs.Images.{sound_bytes}
use Rattle.chain.proofs.chain_sound.Goals as goal

pub trace-r-requires-clause-exact : goal.trace-r-requires-clause-exact
trace-r-requires-clause-exact c =
    reaching_exactly (sound_bytes c.args.index.now) c.requires.n_in_bounds.1.1 _ c.requires.n_in_bounds.0 c.requires.marks_value c.mark_group.ensures c.climb_up.ensures

pub returns-clause-marks_unchanged : goal.returns-clause-marks_unchanged
returns-clause-marks_unchanged c =
    marks_again (sound_bytes c.args.index.now) c.requires.n_in_bounds.1.1 _ c.requires.n_in_bounds.0 c.requires.marks_value c.mark_group.ensures c.climb_up.ensures
    c.clear_marks.ensures
