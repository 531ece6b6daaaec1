-- Child entries as lent numbers: as many as their count says, each within the marks.
use mathlib.Core.Path.{◌≡◌}
use Prim.Native.Nat.{ℕ, ◌≤◌, ◌<◌}
use native.Mathlib.Omega.{arith}
use lib.ListN.{length, get_or}
use Rattle.numbers.proofs.Numbers.{numbers_long}
use Rattle.stored.specs.Reading.{numbers_of}
use Rattle.stored.specs.declared.reading.Numbers.{Numbers}
use Rattle.sound_parents.specs.Fit.{Within}

module _ (s : Numbers) {j : ℕ} where
  pub entry_in : j < s.len → j < length (numbers_of s)
  entry_in h = omega (arith, numbers_long s.width s.bytes.now s.len)

  pub entries_out : s.len ≤ j → length (numbers_of s) ≤ j
  entries_out h = omega (arith, numbers_long s.width s.bytes.now s.len)

  pub entry_low : {room q : ℕ} → Within (numbers_of s) room → j < s.len → q ≡ get_or (numbers_of s) j 0 → q < room
  entry_low W h e = omega (arith, W.low j (entry_in h))
