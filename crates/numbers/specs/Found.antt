-- What a search through 0, .. , n - 1 returns.
use Rattle.std.specs.Prelude.{ℕ, Option, Some, None, cond, ltb}

-- the first that passes, where that is below n
abbrev pub found_below : ℕ → ℕ → Option ℕ
found_below n first = cond (ltb first n) (Some first) None
