-- `exceptions_ask::says` meets its contract: list x of the index's own lists is where it should be, and contained and not listed is what the question says.
use Rattle.stored.proofs.Contents.{labels_only}
use Rattle.exceptions_marks.proofs.Fitted.{labelled, groups_many}
use Rattle.sound_places.proofs.Images.{sound_bytes}
use Rattle.exceptions_ask.proofs.Listed.{list_in_lem, says_by}
use Rattle.exceptions_ask.proofs.Contained.{contains_read}
use Rattle.exceptions_ask.proofs.says.Goals as goal

pub invariant_of-labels : goal.invariant_of-labels
invariant_of-labels c = let s = c.args.index.now in record { held = labelled (sound_bytes s) (labels_only s.image.laid c.labels.ensures) }

pub reaches-requires-clause-list_in : goal.reaches-requires-clause-list_in
reaches-requires-clause-list_in c = list_in_lem _ c.requires.lists_value (groups_many (sound_bytes c.args.index.now)) c.requires.u_lt_n.1.1 c.place-x.ensures.1

pub returns : goal.returns
returns c =
    let s = c.args.index.now in
    let O = sound_bytes s in
    says_by _ c.requires.lists_value (groups_many O) c.requires.u_lt_n.1.1 c.place-x.ensures.1 _ _ c.place-x.ensures.0 c.place-y.ensures.0
    (contains_read O (labels_only s.image.laid c.labels.ensures) _ _ _ c.reaches.ensures)
