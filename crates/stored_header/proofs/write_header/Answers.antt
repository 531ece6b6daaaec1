-- `stored_header::write_header` meets its contract: the twelve numbers stand in an array, and are written from there.
use mathlib.Core.Path.{refl}
use native.Mathlib.Omega.{arith}
use Rattle.stored_header.proofs.write_header.Goals as goal

pub overflow_cast-header-7 : goal.overflow_cast-header-7
overflow_cast-header-7 c = omega (arith, c.requires.every)

pub overflow_cast-header-8 : goal.overflow_cast-header-8
overflow_cast-header-8 c = omega (arith, c.requires.every)

pub overflow_cast-header-9 : goal.overflow_cast-header-9
overflow_cast-header-9 c = omega (arith, c.requires.every)

pub overflow_cast-header-10 : goal.overflow_cast-header-10
overflow_cast-header-10 c = omega (arith, c.requires.every)

pub overflow_cast-header-11 : goal.overflow_cast-header-11
overflow_cast-header-11 c = omega (arith, c.requires.every)

pub overflow_cast-header-12 : goal.overflow_cast-header-12
overflow_cast-header-12 c = omega (arith, c.requires.every)

pub write_words-requires : goal.write_words-requires
write_words-requires c = record { width = record { low = omega arith; high = omega arith; even = refl }; words_in_bounds = omega (arith, c.requires.in_bounds) }
