-- `added::says_over` meets its contract: from u's group alone the rounds say whether v is reached, and cleared again the marks are as they were.
use Rattle.added.proofs.Says.{says_are_lem, marks_again}
use Rattle.sound_places.proofs.Images.{sound_bytes}
use Rattle.added.proofs.says_over.Goals as goal

pub returns : goal.returns
returns c =
    let ends = c.requires.sources_len in
    let lent = c.requires.n_in_bounds in
    record {
      value = says_are_lem (sound_bytes c.args.index.now) ends.0 ends.1.0 ends.1.1 lent.1.0 lent.1.1 _ lent.0 c.requires.marks_value c.mark_group.ensures
          c.reach_over-yes.ensures.marks_after
          c.reach_over-yes.ensures.value;
      marks_unchanged = marks_again (sound_bytes c.args.index.now) ends.0 ends.1.0 ends.1.1 lent.1.0 lent.1.1 _ lent.0 c.requires.marks_value c.mark_group.ensures
          c.reach_over-yes.ensures.marks_after
          c.clear_marks.ensures;
    }
