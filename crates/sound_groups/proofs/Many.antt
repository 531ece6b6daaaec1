-- How many numbers and rows are held: as many as their counts say.
use mathlib.Core.Path.{◌≡◌}
use lib.ListN.{length}
use Rattle.numbers.proofs.Numbers.{numbers_long}
use Rattle.stored.specs.Reading.{numbers_of, rows_of}
use Rattle.stored.specs.declared.reading.Numbers.{Numbers}
use Rattle.stored.specs.declared.reading.Rows.{Rows}
use Rattle.stored.proofs.Sections.{children_long}

pub numbers_many : (s : Numbers) → length (numbers_of s) ≡ s.len
numbers_many s = numbers_long s.width s.bytes.now s.len

pub rows_many : (r : Rows) → length (rows_of r) ≡ r.k
rows_many r = children_long r.width r.starts.now r.children.now r.k r.c
