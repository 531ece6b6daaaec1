-- `exceptions_all::ask_placed` meets its contract: the table is laid out over all vertices, and answers by it and by the lists are those of the index.
use mathlib.Core.Path.{◌≡◌, refl, ap, ◌∙◌}
use native.Mathlib.Omega.{arith}
use lib.ListN.{length}
use lib.Seq.{length-take-le}
use Rattle.numbers.specs.Put.{put}
use Rattle.stored.specs.Sections.{Six}
use Rattle.stored.proofs.Contents.{stretch_of, with_names}
use Rattle.sound_places.proofs.Images.{sound_bytes}
use Rattle.sound_places.proofs.Lent.{lent}
use Rattle.ask_pairs.proofs.Lent.{listed, named}
use Rattle.exceptions_all.proofs.Tabled.{tabled_ready, tabled_threes}
use Rattle.exceptions_all.proofs.ask_placed.Goals as goal
use Rattle.exceptions_all.proofs.ask_placed.Goals.{After-labels, After-lay_out}

-- the sections that were read, among the six
six : (a : After-labels) → let i = a.args.index.now.image in
    Six i.bytes.now i.layout a.names-names.result.now a.groups-groups.result.now (stretch_of i.laid 2) (stretch_of i.laid 3) (stretch_of i.laid 4) a.labels.result.now
six a = with_names a.args.index.now.image.laid a.groups-groups.ensures a.labels.ensures a.names-names.ensures

pub lay_out-requires : goal.lay_out-requires
lay_out-requires c =
    let s = c.args.index.now in
    let S = lent s.image.laid (six (goal.at.lay_out-requires c).After-labels) s.contents in
    (listed S, (named S, length-take-le s.image.layout.n c.args.places.now c.requires.n_bound.1.0))

-- the table has a word for every vertex
long : (o : After-lay_out) → length o.lay_out.new.places ≡ o.args.index.now.image.layout.n
long o = omega (arith, length-take-le o.args.index.now.image.layout.n o.args.places.now o.requires.n_bound.1.0, o.lay_out.auto)

pub ask_each-requires : goal.ask_each-requires
ask_each-requires c =
    let p = c.requires in
    let six = six (goal.at.ask_each-requires c).After-labels in
    record {
      ready = tabled_ready (sound_bytes c.args.index.now) six p.n_bound.0 p.n_bound.1.1 c.lay_out.ensures _ refl (long (goal.at.ask_each-requires c).After-lay_out);
      sources_len = p.sources_len;
    }

pub returns : goal.returns
returns c =
    let p = c.requires in
    let a = c.args in
    let O = sound_bytes a.index.now in
    let six = six (goal.at.returns c).After-labels in
    c.ask_each.ensures
    ∙ ap (put a.answers.now 0)
    (tabled_threes O six p.n_bound.0 p.n_bound.1.1 c.lay_out.ensures (long (goal.at.returns c).After-lay_out) a.sources.now a.targets.now)
