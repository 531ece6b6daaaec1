-- `ask::sections::Sections::of` meets its contract: the six parts are the sections of the bytes, whose contents are sound.
use mathlib.Core.Path.{refl}
use Rattle.stored.specs.Sections.{Six}
use Rattle.stored.proofs.Contents.{index_at_lem}
use Rattle.sound_places.proofs.Lent.{lent}
use Rattle.ask.proofs.sections.Sections.of.Goals as goal
use Rattle.ask.proofs.sections.Sections.of.Goals.{After-labels}

-- the six parts are the sections of the bytes
six : (m : After-labels) → Six m.args.index.now.image.bytes.now m.args.index.now.image.layout m.names.result.now m.groups.result.now
    m.levels.result.now m.starts.result.now m.children.result.now m.labels.result.now
six m = record {
  names_in = m.names.ensures;
  groups_in_lem = m.groups.ensures;
  levels_in = m.levels.ensures;
  starts_in = m.starts.ensures;
  children_in_lem = m.children.ensures;
  labels_in = m.labels.ensures;
}

pub invariant_of-result : goal.invariant_of-result
invariant_of-result c =
    let s = c.args.index.now in
    record { in_triples = record { lent = lent s.image.laid (six (goal.at.invariant_of-result c).After-labels) s.contents; triples = c.requires } }

pub returns : goal.returns
returns c = (index_at_lem c.args.index.now.image.laid (six (goal.at.returns c).After-labels), refl)
