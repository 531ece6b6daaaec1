-- `build_traversal::row_end` meets its contract. Above the first frame the row is that of the vertex in the frame below.
use Prim.Native.Nat.{◌-◌}
use native.Mathlib.Omega.{arith}
use Rattle.build_traversal.proofs.Regions.{end_above}
use Rattle.build_traversal.proofs.row_end.Goals as goal

pub bounds-starts-v : goal.bounds-starts-v
bounds-starts-v c = omega (arith, c.requires.by_index (c.args.d - 1) (omega arith))

pub returns : goal.returns
returns c = end_above c.args.starts.now c.args.vertices.now c.args.q c.args.d c.if-d-eq0.false
