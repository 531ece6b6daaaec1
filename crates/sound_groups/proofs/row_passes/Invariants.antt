-- `sound_groups::row_passes` meets its contract. The invariant: the children passed are places, strictly rising, `next` is one more than the last, and
-- `level` is one more than the greatest of their levels, 0 before the first.
use Prim.Native.Nat.{suc}
use lib.ListN.{get_or}
use Rattle.stored.specs.Reading.{numbers_of}
use Rattle.sound_groups.proofs.Rising.{Rising}
use Rattle.sound_groups.proofs.Greatest.{Greatest}
use Rattle.sound_groups.proofs.row_passes.Given as goal

abbrev pub invariant-loop-i : goal.invariant-loop-i
invariant-loop-i l = Rising l.rows.k (numbers_of l.row) l.row.len l.i l.next
    × Greatest (λ q. suc (get_or (numbers_of l.levels) q 0)) (numbers_of l.row) l.i l.level
