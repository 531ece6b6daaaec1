-- Bytes are those of given numbers exactly where they are as many as the numbers take and are read as those numbers, one by one: what was written is
-- read, and bytes that are read as numbers are those numbers' bytes.
use mathlib.Core.Bool.{true}
use mathlib.Core.Logic.{◌↔◌}
use mathlib.Core.Path.{◌≡◌, refl, sym, ap, subst, ◌∙◌}
use mathlib.Core.List.{List}
use Prim.Native.Nat.{ℕ, ◌*◌, ◌^◌, ◌<◌}
use lib.ListN.{length, get_or}
use Rattle.lineage.specs.Lists.{same_list, Every}
use Rattle.lineage.specs.Numbers.{num_at, numbers, written}
use Rattle.laws.proofs.Lists.{same_list_lem, same_self, table_is}
use Rattle.numbers.proofs.Written.{Bytes, written_long, written_at, written_numbers}

module _ (w : ℕ) (s xs : List ℕ) (bytes : Bytes s) (small : Every (λ x. x < 256 ^ w) xs) where
  read_again : (i : ℕ) → i < length xs → s ≡ written w xs → num_at w s i ≡ get_or xs i 0
  read_again i h e = ap (λ (z : List ℕ). num_at w z i) e ∙ written_at w xs i small h

  written_again : length s ≡ w * length xs → ((i : ℕ) → i < length xs → num_at w s i ≡ get_or xs i 0) → s ≡ written w xs
  unfolding numbers
  written_again l each = sym (written_numbers w s (length xs) bytes l) ∙ ap (written w) (table_is (num_at w s) xs (length xs) 0 refl each)

  pub matches_exactly :
      (same_list s (written w xs) ≡ true) ↔ ((length s ≡ w * length xs) × ((i : ℕ) → i < length xs → num_at w s i ≡ get_or xs i 0))
  matches_exactly = (
    λ t. let e : s ≡ written w xs = same_list_lem s (written w xs) t in (ap length e ∙ written_long w xs, λ i h. read_again i h e),
    λ m. subst (λ (z : List ℕ). same_list s z ≡ true) (written_again m.0 m.1) (same_self s),
  )
