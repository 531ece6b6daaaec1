-- `convert::write_as` meets its contract. The invariant: the header and the first i sections stand written, each where the other layout has it.
use mathlib.Core.Path.{◌≡◌}
use Rattle.convert.proofs.Written.{sections_put}
use Rattle.convert.proofs.write_as.Given as goal

abbrev pub invariant-loop-i : goal.invariant-loop-i
invariant-loop-i l = l.out ≡ sections_put l.index.image.bytes.now l.to l.initial.out l.i
