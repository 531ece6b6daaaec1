-- Children are places, and so is what stands at a rank.
use mathlib.Core.Path.{◌≡◌}
use mathlib.Core.List.{[]}
use Prim.Native.Nat.{ℕ, ◌<◌}
use native.Mathlib.Omega.{arith}
use lib.ListN.{length, get_or}
use Rattle.stored.specs.Reading.{numbers_of}
use Rattle.stored.proofs.Row.{row_low}
use Rattle.reach_sweep.specs.declared.groups.Groups.{Groups}
use Rattle.reach_sweep.specs.declared.groups.Ranks.{Ranks}
use Rattle.reach_sweep.specs.Fit.{children_of}

pub child_low :
    (g : Groups) {p i q : ℕ} → p < g.rows.k → i < length (get_or (children_of g) p []) → q ≡ get_or (get_or (children_of g) p []) i 0 → q < g.rows.k
child_low g {i = i} low h is = omega (arith, row_low (record { entries = g.rows.held; passed = g.passed }) low i h)

pub rank_low : (ranks : Ranks) {r p : ℕ} → p ≡ get_or (numbers_of ranks.places) r 0 → r < ranks.groups.rows.k → p < ranks.groups.rows.k
rank_low ranks {r} is h = omega (arith, ranks.place_low r h)
