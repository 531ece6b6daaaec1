-- How far code is proved: the bounds of every form.
use Rattle.std.specs.Prelude.{ℕ}

-- no form takes more vertices
abbrev pub vertex_bound : ℕ
vertex_bound = 200000

-- nor more edges, nor more child entries
abbrev pub entry_bound : ℕ
entry_bound = 1000000
