-- `ask_stacked::walk_from` meets its contract: both ways of opening are the one defined walk, and only the second alters words.
use borrow.Author.Tests.{ne_eqb}
use Rattle.ask_stacked.proofs.walk_from.Goals as goal

pub returns : goal.returns
returns c = record {
  marks_after = rw c.requires.lev_value.0 c.open_in_words.ensures.marks_after;
  under = c.open_in_words.ensures.under;
  kept = rw (ne_eqb _ _ c.if-walk-eq2.false) c.open_in_words.ensures.kept;
}
