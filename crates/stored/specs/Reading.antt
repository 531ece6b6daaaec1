-- The lists that lent numbers and lent rows hold.
use Rattle.std.specs.Prelude.{List, ℕ}
use Rattle.lineage.specs.Numbers.{numbers}
use Rattle.stored.specs.Sections.{children_in}
use Rattle.stored.specs.declared.reading.Numbers.{Numbers}
use Rattle.stored.specs.declared.reading.Rows.{Rows}

abbrev pub numbers_of : Numbers → List ℕ
numbers_of s = numbers s.width s.bytes.now s.len

abbrev pub rows_of : Rows → List (List ℕ)
rows_of r = children_in r.width r.starts.now r.children.now r.k r.c
