-- Little-endian numbers of w bytes, read and written (document 01, "Stored form 1"). The width w is a number: 4 in the header, in the sections the form's.
use Rattle.std.specs.Prelude.{◌≡◌, List, [], ◌∷◌, map, ℕ, zero, suc, ◌+◌, ◌*◌, ◌/◌, ◌%◌, ◌≤◌, get_or}
use Rattle.lineage.specs.Lists.{upto, joined}

-- 2 or 4
pub record Width (w : ℕ) : Type 0 where
  pub low : 2 ≤ w
  pub high : w ≤ 4
  pub even : w % 2 ≡ 0

-- the number that the w bytes from position p on make, the lowest byte first
unfoldable pub le_at : ℕ → List ℕ → ℕ → ℕ
le_at zero s p = 0
le_at (suc w) s p = get_or s p 0 + 256 * le_at w s (p + 1)

-- number i of a stretch of numbers of w bytes
abbrev pub num_at : ℕ → List ℕ → ℕ → ℕ
num_at w s i = le_at w s (w * i)

-- the first `count` numbers of a stretch
unfoldable pub numbers : ℕ → List ℕ → ℕ → List ℕ
unfolding le_at
numbers w s count = map (num_at w s) (upto count)

-- the w bytes of a number, the lowest first
abbrev pub le_bytes : ℕ → ℕ → List ℕ
le_bytes zero x = []
le_bytes (suc w) x = x % 256 ∷ le_bytes w (x / 256)

-- numbers written one after the other
abbrev pub written : ℕ → List ℕ → List ℕ
written w xs = joined (map (le_bytes w) xs)
