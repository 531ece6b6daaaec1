-- `sound_parents::first_shared` meets its contract: on marks that were cleared the first 2 is that of the first group with two entries; cleared again, nothing of it is left.
use Rattle.stored.specs.Reading.{numbers_of}
use Rattle.sound_parents.proofs.Parents.{within_low, twice_found, counted_left}
use Rattle.sound_parents.proofs.first_shared.Goals as goal

pub returns : goal.returns
returns c =
    let entries = numbers_of c.args.children.now in record {
      value = twice_found entries _ c.args.k _ c.clear_marks.ensures c.count_children.ensures c.requires.k_le_n.0 c.requires.k_le_n.1 c.first_twice-first.ensures;
      marks_after = counted_left entries _ c.args.k _ c.clear_marks.ensures c.count_children.ensures c.requires.k_le_n.0 (within_low c.requires.within)
          c.clear_marks-2.ensures;
    }
