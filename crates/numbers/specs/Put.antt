-- Bytes or words written into what was lent.
use Rattle.std.specs.Prelude.{List, ◌++◌, ℕ, ◌+◌, length, take, drop}

-- what was lent, with these from position at on
unfoldable pub put : List ℕ → ℕ → List ℕ → List ℕ
put lent at these = take at lent ++ (these ++ drop (at + length these) lent)
