-- Child starts from what was read of them.
use mathlib.Core.Bool.{Bool, false}
use mathlib.Core.Path.{◌≡◌}
use mathlib.Core.List.{List}
use Prim.Native.Nat.{ℕ, suc, ◌+◌, ◌<◌}
use native.Mathlib.Numerals.{add-one}
use lib.Dec.{leb}
use lib.ListN.{get_or}
use borrow.Author.Tests.{lt-leb, eq-eqb}
use Rattle.lineage.specs.Lists.{all_below}
use Rattle.lineage.specs.Sound.{starts_pass}

-- the start of p is not above the next
abbrev pub not_falling : List ℕ → ℕ → Bool
not_falling starts p = leb (get_or starts p 0) (get_or starts (suc p) 0)

module _ (starts : List ℕ) (p : ℕ) {a b : ℕ} (this : a ≡ get_or starts p 0) (next : b ≡ get_or starts (p + 1) 0) where
  these : not_falling starts p ≡ leb a b
  these = rw (← this, ← (rw (add-one p) at next))

  pub start_falls : b < a → not_falling starts p ≡ false
  start_falls h = rw these (lt-leb a b h)

module _ (starts : List ℕ) (k c : ℕ) {a : ℕ} (first : a ≡ get_or starts 0 0) where
  pub starts_fall : a ≡ 0 → all_below k (not_falling starts) ≡ false → false ≡ starts_pass starts k c
  starts_fall z f = rw (← first, eq-eqb a 0 z, f)
