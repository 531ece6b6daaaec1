-- `build_levels::levels` meets its contract. The invariant: the places at the ranks passed have their levels. The children of the place at hand stand at such ranks.
use Rattle.lineage.specs.Graph.{levels_of}
use Rattle.build_levels.specs.Children.{children_in_words}
use Rattle.build_levels.proofs.Upwards.{Filling}
use Rattle.build_levels.proofs.levels.Given as goal

abbrev pub invariant-loop-r : goal.invariant-loop-r
invariant-loop-r l = Filling l.initial.work l.work (levels_of (children_in_words l.initial.work l.rows.starts l.rows.values l.rows.c l.rows.k)) l.out l.rows.k l.base l.r
