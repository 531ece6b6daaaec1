-- `sound_labels::labels_sound` meets its contract. Marks cleared and then told of every child entry tell who is nobody's child, and whether one is a child of two others;
-- cleared again, nothing of that is left.
use mathlib.Core.Bool.{◌&&◌}
use mathlib.Core.Path.{ap₂, ◌∙◌}
use Rattle.sound_parents.proofs.Nobody.{entries_within, tells, told_cleared}
use Rattle.sound_parents.proofs.Parents.{single_is}
use Rattle.sound_labels.proofs.labels_sound.Goals as goal

pub parents_pass-single-requires : goal.parents_pass-single-requires
parents_pass-single-requires c = record { within = entries_within c.args.rows.now.placed; k_le_n = c.requires.k_le_n }

pub labellings_pass-passed-requires : goal.labellings_pass-passed-requires
labellings_pass-passed-requires c = record {
  k_same = c.requires.k_same;
  tells = tells c.args.rows.now.placed c.args.labels.now.z c.args.marks.now c.requires.k_le_n.0 c.requires.k_le_n.1 c.parents_pass-single.ensures.marks_after;
}

pub returns : goal.returns
returns c = record {
  value = ap₂ ◌&&◌ c.labellings_pass-passed.ensures (c.parents_pass-single.ensures.value ∙ single_is c.args.rows.now.placed c.args.labels.now.z);
  marks_after = told_cleared c.args.rows.now.placed c.args.labels.now.z c.args.marks.now c.requires.k_le_n.0 c.requires.k_le_n.1 c.parents_pass-single.ensures.marks_after
      c.clear_marks.ensures;
}
