-- `exceptions_lists::write_exceptions` meets its contract: the head, and behind it where lists end and the lists.
use mathlib.Core.Path.{sym}
use native.Mathlib.Omega.{arith}
use Rattle.lineage.specs.Calls.{index_in}
use Rattle.exceptions_marks.proofs.Fitted.{groups_many}
use Rattle.exceptions_lists.proofs.Writing.{lists_written}
use Rattle.sound_places.proofs.Images.{sound_bytes}
use Rattle.exceptions_lists.proofs.write_exceptions.Goals as goal

pub returns-clause-out_after : goal.returns-clause-out_after
returns-clause-out_after c =
    lists_written (index_in c.args.index.now.image.bytes.now) (sym (groups_many (sound_bytes c.args.index.now))) c.args.out.now c.write_head.new.out c.write_lists.new.out c.requires.entries_value.0
    (omega (arith, c.requires.entries_value)) c.write_head.ensures c.write_lists.ensures.out_after
