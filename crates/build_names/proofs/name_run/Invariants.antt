-- `build_names::name_run` meets its contract. The invariant: the vertices passed have the name.
use Rattle.numbers.proofs.Stamping.{Stamping}
use Rattle.build_names.proofs.name_run.Given as goal

abbrev pub invariant-loop-i : goal.invariant-loop-i
invariant-loop-i l = Stamping l.initial.work l.work l.initial.work l.base l.n l.name l.at l.i
