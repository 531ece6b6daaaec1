-- `sound_labels::labelling` meets its contract: the two parts are the numbers by place and the places by rank of the labelling.
use Rattle.sound_labels.proofs.Labellings.{labelling_is}
use Rattle.sound_labels.proofs.labelling.Goals as goal

pub returns-clause-labelling_same : goal.returns-clause-labelling_same
returns-clause-labelling_same g c = labelling_is c.args.labels.now.held c.requires.z_same c.args.j c.tuples.ensures c.by_rank.ensures
