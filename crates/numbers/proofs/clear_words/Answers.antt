-- `numbers::clear_words` meets its contract: the first n words are 0, and no other is touched.
use Rattle.numbers.proofs.Cleared.{cleared_first}
use Rattle.numbers.proofs.clear_words.Goals as goal

pub returns : goal.returns
returns c = cleared_first _ c.clear_part.ensures.kept c.clear_part.ensures.n_after
