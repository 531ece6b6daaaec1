-- What the printer's functions leave in a lent buffer.
use Rattle.std.specs.Prelude.{List, ◌≡◌, ℕ, ◌+◌, ◌*◌, length}
use Rattle.numbers.specs.Put.{put}
use Rattle.text.specs.Blocks.{most_questions}

-- a buffer for the longest output: 62 bytes for the line of each question, 31 for each of its two vertices
abbrev pub most_output : ℕ
most_output = 62 * most_questions

-- these bytes were put into the buffer, and the position behind them is given back
pub record Put (out : List ℕ) (at : ℕ) (bytes : List ℕ) (next : ℕ) (exit : List ℕ) : Type 0 where
  pub behind : next ≡ at + length bytes
  pub whole : exit ≡ put out at bytes
