-- `exceptions_rows::entry_at` meets its contract: the mark of the group that stands there tells whether it is an exception, and its entry is told from the sections.
use Rattle.stored.specs.Sections.{Six}
use Rattle.stored.proofs.Contents.{stretch_of, with_rows}
use Rattle.exceptions_marks.proofs.Fitted.{with_groups, name_low}
use Rattle.exceptions_rows.proofs.Given.{placed, told_over, told_here}
use Rattle.sound_places.proofs.Images.{sound_bytes}
use Rattle.exceptions_rows.proofs.entry_at.Goals as goal
use Rattle.exceptions_rows.proofs.entry_at.Goals.{After-labels}

given : (a : After-labels) → let L = a.args.index.now.image.laid in
    Six a.args.index.now.image.bytes.now a.args.index.now.image.layout (stretch_of L 0) a.args.groups.now (stretch_of L 2) a.starts.result.now a.children.result.now
    a.labels.result.now
given a = with_rows a.args.index.now.image.laid a.requires.groups_in a.labels.ensures a.starts.ensures a.children.ensures

pub bounds-marks-name : goal.bounds-marks-name
bounds-marks-name c =
    let O = sound_bytes c.args.index.now in name_low O (with_groups O.laid c.requires.groups_in) c.requires.y_lt_k c.num-name.ensures.0 c.requires.n_in_bounds.0

pub returns-then-marks-name-ne-EXCEPTED : goal.returns-then-marks-name-ne-EXCEPTED
returns-then-marks-name-ne-EXCEPTED c =
    let O = sound_bytes c.args.index.now in
    told_over O (with_groups O.laid c.requires.groups_in) c.requires.y_lt_k c.num-name.ensures.0 c.requires.n_in_bounds.1.1 c.if-marks-name-ne-EXCEPTED.true

pub invariant_of-rows : goal.invariant_of-rows
invariant_of-rows c = record { held = (placed (sound_bytes c.args.index.now) (given (goal.at.invariant_of-rows c).After-labels)).entries }

pub invariant_of-entry_of : goal.invariant_of-entry_of
invariant_of-entry_of c = record { placed = placed (sound_bytes c.args.index.now) (given (goal.at.invariant_of-entry_of c).After-labels) }

pub returns : goal.returns
returns c =
    told_here (sound_bytes c.args.index.now) (given (goal.at.returns c).After-labels) c.requires.y_lt_k c.num-name.ensures.0 c.requires.n_in_bounds.1.1
    c.if-marks-name-ne-EXCEPTED.false c.entry_of.ensures
