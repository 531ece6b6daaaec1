-- The lent words that a walk uses for its stack.
use Rattle.std.specs.Prelude.{cond, ℕ, ◌*◌, eqb}

-- beside n marks two for each, since a frame is two words and no group is opened twice; none where numbers are of 16 bits
abbrev pub stack_words : ℕ → ℕ → ℕ
stack_words w n = cond (eqb w 2) 0 (2 * n)
