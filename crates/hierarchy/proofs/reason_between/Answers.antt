-- `hierarchy::reason_between` meets its contract: what decides between the places of the two vertices' groups is the question's answer.
use Rattle.sound_places.proofs.Images.{sound_bytes}
use Rattle.hierarchy.proofs.Asked.{fit_pairs, question_is}
use Rattle.hierarchy.proofs.reason_between.Goals as goal

pub decide-requires : goal.decide-requires
decide-requires c = fit_pairs (sound_bytes c.args.index.now) c.requires.plain c.levels-levels.ensures c.labels-labels.ensures c.place-x.ensures.1 c.place-t.ensures.1

pub returns : goal.returns
returns c =
    question_is (sound_bytes c.args.index.now) c.requires.plain c.levels-levels.ensures c.labels-labels.ensures c.place-x.ensures.1 c.place-t.ensures.1 c.args.u c.args.v
    c.place-x.ensures.0 c.place-t.ensures.0 c.decide.ensures
