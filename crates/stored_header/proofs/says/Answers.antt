-- `stored_header::says` meets its contract: number i is read, within the header, and compared.
use mathlib.Core.Path.{ap}
use Prim.Native.Nat.{ℕ}
use lib.Dec.{eqb}
use Rattle.stored_header.proofs.says.Goals as goal

pub returns : goal.returns
returns c = ap (λ (z : ℕ). eqb z c.args.number) c.num.ensures.0
