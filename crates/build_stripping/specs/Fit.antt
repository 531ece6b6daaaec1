-- What is lent to each pass fits together: the regions that it reads lie outside its window, and the window lies in the buffer.
use Rattle.std.specs.Prelude.{◌≡◌, List, [], ◌∷◌, ℕ, ◌+◌, ◌-◌, ◌^◌, ◌≤◌, ◌<◌, length, replicate}
use Rattle.lineage.specs.Lists.{part}
use Rattle.laws.specs.Laid.{Below, Laid}
use Rattle.numbers.specs.Regions.{Outside}
use Rattle.build_stripping.specs.Stamps.{Stamps}

-- k rows of c numbers below k; the window has k + 1 words for starts, c for values, and k stamps, all 0
pub record StripFit (work : List ℕ) (starts values c k base : ℕ) : Type 0 where
  pub starts_there : Outside work starts (k + 1) base (k + 1 + c + k)
  pub values_there : Outside work values c base (k + 1 + c + k)
  pub laid : Laid (part work starts (k + 1)) (part work values c) k
  pub values_low : Below k (part work values c)
  pub stamps : part work (base + k + 1 + c) k ≡ replicate k 0
  pub room : base + (k + 1 + c + k) ≤ length work
  pub few_values : c < 2 ^ 32
  pub few : k < 2 ^ 32

-- the entries of row p, from `from` to `to` of c values; at words stand at out, no more than were passed, and behind the c words there the stamps, of which p's
-- alone is row p's
pub record EntriesFit (work : List ℕ) (values c from to p k out at : ℕ) : Type 0 where
  pub values_there : Outside work values c (out + at) (c - at + k)
  pub values_low : Below k (part work values c)
  pub rising : from ≤ to
  pub inside : to ≤ c
  pub most : at ≤ from
  pub stamps : Stamps (part work (out + c) k) k (p + 1) (p ∷ [])
  pub room : out + c + k ≤ length work
  pub small : p + 1 < 2 ^ 32
