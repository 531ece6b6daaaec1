-- `build_writing::write_groups` meets its contract: the header and the five sections, each put at its offset, stand one behind the other. Every section ends where the
-- next one starts, and so lies in the output before the labels do.
use native.Mathlib.Omega.{arith}
use Rattle.build_writing.proofs.Groups.{fit_sited, sections_room, groups_put}
use Rattle.build_writing.proofs.write_groups.Goals as goal

pub write_header-requires : goal.write_header-requires
write_header-requires c = let fit = c.requires in record { in_bounds = omega (arith, fit_sited fit); every = fit.small }

pub write_words-requires : goal.write_words-requires
write_words-requires c = let fit = c.requires in record { width = fit.width; words_in_bounds = omega (arith, sections_room fit) }

pub write_words-requires-2 : goal.write_words-requires-2
write_words-requires-2 c = let fit = c.requires in record { width = fit.width; words_in_bounds = omega (arith, sections_room fit) }

pub write_words-requires-3 : goal.write_words-requires-3
write_words-requires-3 c = let fit = c.requires in record { width = fit.width; words_in_bounds = omega (arith, sections_room fit) }

pub write_words-requires-4 : goal.write_words-requires-4
write_words-requires-4 c = let fit = c.requires in record { width = fit.width; words_in_bounds = omega (arith, sections_room fit) }

pub write_words-requires-5 : goal.write_words-requires-5
write_words-requires-5 c = let fit = c.requires in record { width = fit.width; words_in_bounds = omega (arith, sections_room fit) }

pub returns : goal.returns
returns c =
    groups_put c.requires _ _ _ _ _ _ c.write_header.ensures c.write_words.ensures c.write_words-2.ensures c.write_words-3.ensures
    c.write_words-4.ensures
    c.write_words-5.ensures
