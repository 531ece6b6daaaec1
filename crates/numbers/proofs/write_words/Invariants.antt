-- `numbers::write_words` meets its contract. The invariant: the first i words stand written from position at on, everything else is as it was lent, and p is
-- where the next one goes.
use mathlib.Core.Path.{◌≡◌}
use Prim.Native.Nat.{◌+◌, ◌*◌}
use lib.ListN.{length}
use Rattle.numbers.proofs.Written.{words_put}
use Rattle.numbers.proofs.write_words.Given as goal

abbrev pub invariant-loop-word : goal.invariant-loop-word
invariant-loop-word l =
    (l.p ≡ l.at + l.w * l.word-index) × ((length l.out ≡ length l.initial.out) × (l.out ≡ words_put l.w l.at l.words l.initial.out l.word-index))
