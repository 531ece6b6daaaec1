-- Numbers read from a stretch that holds them.
use mathlib.Core.Path.{◌≡◌, sym, ◌∙◌}
use mathlib.Core.List.{List}
use Prim.Native.Nat.{ℕ, ◌+◌, ◌*◌, ◌≤◌, ◌<◌}
use lib.ListN.{length, get_or}
use Rattle.lineage.specs.Numbers.{Width, num_at, numbers}
use Rattle.numbers.proofs.Numbers.{room, numbers_at}
use Rattle.stored.specs.Rows.{Holds}

module _ {w : ℕ} {s : List ℕ} {count : ℕ} (H : Holds w s count) where
  -- number i can be read
  pub can_read : {i : ℕ} → i < count → record { width : Width w; w_in_bounds : w * i + w ≤ length s }
  can_read {i} h = record { width = H.width; w_in_bounds = room w i count (length s) h H.long }

  -- what was read is number i of the list
  pub was_read : {i x : ℕ} → i < count → x ≡ num_at w s i → x ≡ get_or (numbers w s count) i 0
  was_read {i} h e = e ∙ sym (numbers_at w s count i h)
