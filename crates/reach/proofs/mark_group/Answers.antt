-- `reach::mark_group` meets its contract: the mark at the name that was read is set.
use native.Mathlib.Omega.{arith}
use Rattle.stored.specs.Sections.{Six}
use Rattle.stored.proofs.Contents.{stretch_of, names_only}
use Rattle.reach.proofs.Fitted.{named_low, mark_is}
use Rattle.sound_places.proofs.Images.{sound_bytes}
use Rattle.reach.proofs.mark_group.Goals as goal
use Rattle.reach.proofs.mark_group.Goals.{After-names-names}

given : (c : After-names-names) → Six c.args.index.now.image.bytes.now c.args.index.now.image.layout c.names-names.result.now (stretch_of c.args.index.now.image.laid 1) (stretch_of c.args.index.now.image.laid 2) (stretch_of c.args.index.now.image.laid 3)
    (stretch_of c.args.index.now.image.laid 4) (stretch_of c.args.index.now.image.laid 5)
given c = names_only c.args.index.now.image.laid c.names-names.ensures

pub bounds-marks-name : goal.bounds-marks-name
bounds-marks-name c = omega (arith, named_low (sound_bytes c.args.index.now) (given (goal.at.bounds-marks-name c).After-names-names) c.requires.1 c.num-name.ensures.0, c.requires.0)

pub returns : goal.returns
returns c = mark_is (sound_bytes c.args.index.now) (given (goal.at.returns c).After-names-names) c.requires.1 c.num-name.ensures.0 _
