-- `sound_groups::groups_pass` meets its contract: the three functions compute the test's parts, each looked at where those before it hold.
use mathlib.Core.Bool.{not}
use mathlib.Core.Path.{ap, ◌∙◌}
use Rattle.laws.proofs.Tests.{and_fails, and_goes}
use Rattle.sound_groups.proofs.Many.{numbers_many}
use Rattle.sound_groups.proofs.Groups.{groups_is}
use Rattle.sound_groups.proofs.groups_pass.Goals as goal

pub returns-then-not-names_pass : goal.returns-then-not-names_pass
returns-then-not-names_pass c =
    and_goes c.starts_pass.ensures (ap not c.if-not-starts_pass.false)
    (and_fails c.names_pass.ensures _ (ap not c.if-not-names_pass.true) ∙ groups_is _ _ _ _ _ _ _ _ (numbers_many c.args.groups.now) (numbers_many c.args.levels.now ∙ c.requires.levels_many))

pub returns : goal.returns
returns c =
    and_goes c.starts_pass.ensures (ap not c.if-not-starts_pass.false)
    (and_goes c.names_pass.ensures (ap not c.if-not-names_pass.false) c.rows_pass.ensures ∙ groups_is _ _ _ _ _ _ _ _ (numbers_many c.args.groups.now) (numbers_many c.args.levels.now ∙ c.requires.levels_many))
