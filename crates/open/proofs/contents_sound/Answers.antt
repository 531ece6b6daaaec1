-- `open::contents_sound` meets its contract: the six parts hold what `decode` reads, and the tests of groups and those of labels, looked at where the first hold, are the
-- test of the index.
use mathlib.Core.Bool.{not}
use mathlib.Core.Path.{ap, ◌∙◌}
use Rattle.laws.proofs.Tests.{told_true, and_left, and_fails, and_goes}
use Rattle.numbers.proofs.Numbers.{numbers_long}
use Rattle.stored.proofs.Contents.{contents_are}
use Rattle.sound_groups.proofs.Groups.{places_passed}
use Rattle.open.proofs.Contents.{parts_is, rows_held}
use Rattle.open.proofs.contents_sound.Goals as goal

pub returns-then-not-groups_pass-clause-value : goal.returns-then-not-groups_pass-clause-value
returns-then-not-groups_pass-clause-value c =
    and_fails c.groups_pass.ensures _ (ap not c.if-not-groups_pass.true)
    ∙ parts_is _ _ _ _ _ _ _ _ _ _ _ _
    ∙ contents_are c.args.index.now.laid (record {
      names_in = c.names.ensures;
      groups_in_lem = c.groups.ensures;
      levels_in = c.levels.ensures;
      starts_in = c.starts.ensures;
      children_in_lem = c.children.ensures;
      labels_in = c.labels.ensures;
    })

pub invariant_of-labels_sound : goal.invariant_of-labels_sound
invariant_of-labels_sound c =
    let passed = told_true c.groups_pass.ensures (ap not c.if-not-groups_pass.false) in record {
      placed = places_passed _ _ _ (rows_held c.args.index.now.laid c.starts.ensures c.children.ensures (and_left _ _ passed)) (numbers_long _ _ _) (numbers_long _ _ _) passed;
    }

pub returns-clause-value : goal.returns-clause-value
returns-clause-value c =
    and_goes c.groups_pass.ensures (ap not c.if-not-groups_pass.false) c.labels_sound.ensures.value
    ∙ parts_is _ _ _ _ _ _ _ _ _ _ _ _
    ∙ contents_are c.args.index.now.laid (record {
      names_in = c.names.ensures;
      groups_in_lem = c.groups.ensures;
      levels_in = c.levels.ensures;
      starts_in = c.starts.ensures;
      children_in_lem = c.children.ensures;
      labels_in = c.labels.ensures;
    })
