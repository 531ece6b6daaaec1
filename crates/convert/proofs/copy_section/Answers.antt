-- `convert::copy_section` meets its contract: the part that it reads is section i, with as many numbers as the counts say, and the other layout has room for these
-- behind that section's offset, in the one width or the other.
use mathlib.Core.Path.{◌≡◌}
use lib.ListN.{get_or}
use Rattle.stored_header.specs.Header.{offsets_of}
use Rattle.convert.proofs.Written.{wide, section_copied}
use Rattle.convert.proofs.copy_section.Goals as goal
use Rattle.convert.proofs.copy_section.Goals.{After-section-from}

placed : (c : After-section-from) → let a = c.args in c.offset-at.result ≡ get_or (offsets_of a.to) a.i 0
placed c = c.offset-at.ensures

pub returns-then-to-eq2 : goal.returns-then-to-eq2
returns-then-to-eq2 c =
    section_copied c.requires.turns _ c.requires.i_bound.0 (placed (goal.at.returns-then-to-eq2 c).After-section-from) c.size-size.ensures c.section-from.ensures _
    c.if-to-eq2.true c.copy_numbers.ensures

pub returns : goal.returns
returns c =
    section_copied c.requires.turns _ c.requires.i_bound.0 (placed (goal.at.returns c).After-section-from) c.size-size.ensures c.section-from.ensures _
    (wide c.requires.turns c.if-to-eq2.false) c.copy_numbers-2.ensures
