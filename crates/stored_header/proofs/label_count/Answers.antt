-- `stored_header::label_count` meets its contract: at the bounds of k and d the product is 4,000,000 at most, and so in no danger of overflow.
use native.Mathlib.Omega.{arith}
use native.Mathlib.Nat.{mul-le-mul}
use mathlib.Core.Path.{refl}
use Prim.Native.Nat.{ℕ, ◌+◌, ◌*◌, ◌≤◌}
use Rattle.lineage.specs.Stored.{most_labellings}
use Rattle.numbers.specs.Bounds.{vertex_bound}
use Rattle.stored_header.specs.Header.{Stride}
use Rattle.stored_header.proofs.label_count.Goals as goal

at_most : {z k d : ℕ} → Stride z → k ≤ vertex_bound → d ≤ most_labellings
    → ((z + 1) * k ≤ 4 * vertex_bound) × (d * ((z + 1) * k) ≤ most_labellings * (4 * vertex_bound))
at_most {z} {k} {d} Z hk hd =
    let by : z + 1 ≤ 4 = omega (arith, Z.high) in
    (mul-le-mul by hk, mul-le-mul hd (mul-le-mul by hk))

pub overflow_mul-result : goal.overflow_mul-result
overflow_mul-result c = omega (arith, at_most c.requires.stride c.requires.k_le_vertex_bound.0 c.requires.k_le_vertex_bound.1)

pub overflow_mul-result-2 : goal.overflow_mul-result-2
overflow_mul-result-2 c = omega (arith, at_most c.requires.stride c.requires.k_le_vertex_bound.0 c.requires.k_le_vertex_bound.1)

pub returns : goal.returns
returns c = (refl, (at_most c.requires.stride c.requires.k_le_vertex_bound.0 c.requires.k_le_vertex_bound.1).1)
