-- `sound_labels::labellings_pass` meets its contract, by the invariant beside this file.
use mathlib.Core.Bool.{not}
use mathlib.Core.Path.{ap, ◌∙◌}
use Rattle.laws.proofs.Passed.{passed_all, passed_not}
use Rattle.sound_labels.proofs.Labellings.{labellings_are}
use Rattle.sound_labels.proofs.labellings_pass.Goals as goal

pub returns-then-not-labelling_passes : goal.returns-then-not-labelling_passes
returns-then-not-labelling_passes c =
    passed_not c.loop-j.invariant c.loop-j-test.true c.labelling_passes.ensures (ap not c.if-not-labelling_passes.true) ∙ labellings_are _ _ _ _ _ _

pub returns : goal.returns
returns c = passed_all c.loop-j.invariant c.loop-j-test.false ∙ labellings_are _ _ _ _ _ _
