-- The index that the sections of a walk hold, and the net that it goes by.
use Rattle.lineage.specs.Index.{Index}
use Rattle.lineage.specs.Walk.{Net}
use Rattle.ask_walk.specs.Fit.{groups_in, net_in}
use Rattle.ask_walk.specs.declared.towards.Towards.{Towards}

abbrev pub index_of_walk : Towards → Index
index_of_walk s = groups_in s.width s.k s.d s.groups.now s.levels.now s.starts.now s.children.now s.labels.now

abbrev pub net_of_walk : Towards → Net
net_of_walk s = net_in s.width s.k s.d s.t s.groups.now s.levels.now s.starts.now s.children.now s.labels.now
