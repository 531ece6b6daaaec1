-- `sound_parents::parents_pass` meets its contract: on marks that were cleared the children are counted, and a 2 is looked for, where labels are in pairs; otherwise they
-- are marked.
use Rattle.stored.specs.Reading.{numbers_of}
use Rattle.sound_parents.proofs.Parents.{pairs_pass, pairs_told}
use Rattle.sound_parents.proofs.parents_pass.Goals as goal

pub returns-then-z-eq2 : goal.returns-then-z-eq2
returns-then-z-eq2 c =
    let entries = numbers_of c.args.children.now in
    let cleared = c.clear_marks.ensures in record {
      value = pairs_pass entries _ c.args.k _ cleared c.count_children.ensures c.if-z-eq2.true c.requires.k_le_n.0 c.requires.k_le_n.1 c.first_twice.ensures c.is_none.ensures;
      marks_after = pairs_told entries _ c.args.k _ cleared c.count_children.ensures c.if-z-eq2.true;
    }
