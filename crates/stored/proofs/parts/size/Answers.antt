-- `stored::parts::size` meets its contract: the sizes that the counts give, with the numbers of the labels as they are counted.
use mathlib.Core.Path.{ap}
use mathlib.Core.List.{[], ◌∷◌}
use Prim.Native.Nat.{ℕ, ◌+◌}
use lib.ListN.{get_or}
use Rattle.stored.proofs.parts.size.Goals as goal

pub returns : goal.returns
returns c =
    let l = c.args.l in
    ap (λ (q : ℕ). get_or (l.n ∷ l.k ∷ l.k ∷ (l.k + 1) ∷ l.c ∷ q ∷ []) c.args.i 0) c.label_count.ensures.0
