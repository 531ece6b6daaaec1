-- `exceptions_marks::mark_exceptions` meets its contract: the sweep from the name of x marks what x reaches, and then its exceptions are marked.
use native.Mathlib.Omega.{arith}
use Rattle.stored.specs.Sections.{Six}
use Rattle.stored.proofs.Contents.{stretch_of}
use Rattle.reach.proofs.Fitted.{index_sound, labels_some}
use Rattle.exceptions_marks.proofs.Fitted.{with_groups, places_many, room_there, name_low, name_was}
use Rattle.exceptions_marks.proofs.Swept.{name_reaches, excepting_swept}
use Rattle.sound_places.proofs.Images.{sound_bytes}
use Rattle.exceptions_marks.proofs.mark_exceptions.Goals as goal
use Rattle.exceptions_marks.proofs.mark_exceptions.Goals.{After-groups-groups}

given : (g : After-groups-groups) → let L = g.args.index.now.image.laid in
    Six g.args.index.now.image.bytes.now g.args.index.now.image.layout (stretch_of L 0) g.groups-groups.result.now (stretch_of L 2) (stretch_of L 3) (stretch_of L 4) (stretch_of L 5)
given g = with_groups g.args.index.now.image.laid g.groups-groups.ensures

pub mark_reached-requires-clause-n_in_bounds : goal.mark_reached-requires-clause-n_in_bounds
mark_reached-requires-clause-n_in_bounds c =
    (c.requires.n_in_bounds.0, name_low (sound_bytes c.args.index.now) (given (goal.at.mark_reached-requires-clause-n_in_bounds c).After-groups-groups) c.requires.n_in_bounds.1 c.num-name.ensures.0 (omega arith))

pub mark_contained-requires-clause-reaching : goal.mark_contained-requires-clause-reaching
mark_contained-requires-clause-reaching c =
    let O = sound_bytes c.args.index.now in
    name_reaches (index_sound O) (labels_some O) (omega (arith, c.requires.n_in_bounds.1, places_many O)) (name_was O (given (goal.at.mark_contained-requires-clause-reaching c).After-groups-groups) c.requires.n_in_bounds.1 c.num-name.ensures.0) _ (room_there O c.requires.n_in_bounds.0)
    c.mark_reached.ensures

pub returns-clause-excepting : goal.returns-clause-excepting
returns-clause-excepting c =
    let O = sound_bytes c.args.index.now in
    excepting_swept (index_sound O) (labels_some O) (omega (arith, c.requires.n_in_bounds.1, places_many O)) (name_was O (given (goal.at.returns-clause-excepting c).After-groups-groups) c.requires.n_in_bounds.1 c.num-name.ensures.0) _ (room_there O c.requires.n_in_bounds.0)
    c.mark_reached.ensures c.mark_contained.ensures.excepting
