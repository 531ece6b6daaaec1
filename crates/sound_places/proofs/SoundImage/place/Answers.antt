-- `sound_places::SoundImage::place` meets its contract: the name of u's group is read and stands in the group list, and its place there is the one that the index has.
use mathlib.Core.Path.{ap, ◌∙◌}
use native.Mathlib.Omega.{arith}
use Rattle.lineage.specs.Index.{Index}
use Rattle.lineage.specs.Question.{place_in}
use Rattle.stored.specs.Sections.{Six}
use Rattle.stored.proofs.Contents.{stretch_of, names_only, with_names, index_at_lem}
use Rattle.sound_places.specs.Lent.{Lent}
use Rattle.sound_places.proofs.Lent.{lent}
use Rattle.sound_places.proofs.Vertices.{list_rises, list_low, name_listed, vertex_low, vertex_placed}
use Rattle.sound_places.proofs.SoundImage.place.Goals as goal
use Rattle.sound_places.proofs.SoundImage.place.Goals.{After-groups}

-- the sections that were read, among the six
given : (c : After-groups) → let i = c.args.self.now.image in
    Six i.bytes.now i.layout c.names.result.now c.groups.result.now (stretch_of i.laid 2) (stretch_of i.laid 3) (stretch_of i.laid 4) (stretch_of i.laid 5)
given c =
    let L = c.args.self.now.image.laid in
    with_names L c.groups.ensures (names_only L c.names.ensures).labels_in c.names.ensures

sections : (c : After-groups) → let i = c.args.self.now.image in
    Lent i.layout c.names.result.now c.groups.result.now (stretch_of i.laid 2) (stretch_of i.laid 3) (stretch_of i.laid 4) (stretch_of i.laid 5)
sections c = lent c.args.self.now.image.laid (given c) c.args.self.now.contents

pub place_of-requires : goal.place_of-requires
place_of-requires c =
    let S = sections (goal.at.place_of-requires c).After-groups in
    record {
      width = S.width;
      k_in_bounds = (omega (arith, S.groups_long), S.groups_few);
      rises = list_rises S;
      by_index = list_low S;
      k_value = name_listed S c.requires c.num-name.ensures.0;
    }

pub returns : goal.returns
returns c =
    let G = (goal.at.returns c).After-groups in
    let S = sections G in (
      vertex_placed S c.requires c.num-name.ensures.0 c.place_of.ensures
          ∙ ap (λ (I : Index). place_in I c.args.u) (index_at_lem c.args.self.now.image.laid (given G)),
      vertex_low S c.requires c.num-name.ensures.0 c.place_of.ensures,
    )
