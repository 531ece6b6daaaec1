-- `build_names::take_group` meets its contract: the group lies between the two regions that are written.
use mathlib.Core.Path.{refl, ap, ◌∙◌}
use Rattle.numbers.proofs.Regions.{slice_is}
use Rattle.laws.specs.OnePass.{least_of}
use Rattle.build_names.proofs.Taking.{taken}
use Rattle.build_names.proofs.take_group.Goals as goal

pub returns : goal.returns
returns c =
    taken c.requires c.name_run.ensures.kept (c.least_word-name.ensures ∙ ap least_of (slice_is _ _ _ refl)) c.name_run.ensures.stamped
    c.name_run-2.ensures.kept c.name_run-2.ensures.stamped
