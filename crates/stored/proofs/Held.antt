-- Where parts lie: the numbers of a labelling within all labels, and those of one group within the children.
use mathlib.Core.Path.{◌≡◌}
use mathlib.Core.List.{List}
use Prim.Native.Nat.{ℕ, ◌+◌, ◌*◌, ◌-◌, ◌^◌, ◌≤◌, ◌<◌}
use native.Mathlib.Omega.{arith}
use native.Mathlib.Nat.{mul-le-mul, mul-le-mul_left, mul-le-mul_right, suc-mul, mul-suc}
use lib.ListN.{length}
use Rattle.lineage.specs.Stored.{most_labellings}
use Rattle.numbers.specs.Bounds.{vertex_bound}
use Rattle.numbers.specs.Regions.{Part}
use Rattle.stored.specs.Sections.{Labellings}

-- labelling j lies within the d of them
pub labelling_within : (size d j : ℕ) → j < d → j * size + size ≤ d * size
labelling_within size d j h = omega (arith, mul-le-mul_right size h, suc-mul j size)

-- number i of group p is among the numbers by place
pub number_low : (z k p i : ℕ) → p < k → i < z → z * p + i < z * k
number_low z k p i h t = omega (arith, mul-le-mul_left z h, mul-suc z p)

-- its numbers by place are 2k or 3k
pub tuples_few : {w z k d : ℕ} {labels : List ℕ} → Labellings w z labels k d → (2 * k ≤ z * k) × (z * k ≤ 3 * vertex_bound)
tuples_few {k = k} L = (mul-le-mul_right k L.stride.low, mul-le-mul L.stride.high L.groups_few)

-- some of its numbers
pub labelling_fits :
    {w z k d : ℕ} {labels : List ℕ} → Labellings w z labels k d → (j from count : ℕ) → j < d → from + count ≤ j * ((z + 1) * k) + (z + 1) * k
    → (from + count < 2 ^ 32) × (w * (from + count) ≤ length labels)
labelling_fits {w} {z} {k} {d} L j from count h r =
    let by : z + 1 ≤ 4 = omega (arith, L.stride.high) in
    let most : d * ((z + 1) * k) ≤ most_labellings * (4 * vertex_bound) = mul-le-mul L.labellings_few (mul-le-mul by L.groups_few) in
    let within : from + count ≤ d * ((z + 1) * k) = omega (arith, labelling_within ((z + 1) * k) d j h) in
    (omega arith, omega (arith, mul-le-mul_left w within, L.long))

-- the numbers from child start to next child start
module _ (w start next from to : ℕ) (start_is : start ≡ from) (next_is : next ≡ to) where
  pub children_fit : (long : ℕ) → from ≤ to → next < 2 ^ 32 → w * to ≤ long → (start + (next - start) < 2 ^ 32) × (w * (start + (next - start)) ≤ long)
  children_fit long h small r =
      let e : start + (next - start) ≡ to = omega arith in
      rw e (omega arith, r)

  pub children_from_lem : (s r : List ℕ) → Part s (w * start) (w * (next - start)) r → Part s (w * from) (w * (to - from)) r
  children_from_lem s r P = rw (← start_is, ← next_is) P
