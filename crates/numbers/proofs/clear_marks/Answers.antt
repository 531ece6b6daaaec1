-- `numbers::clear_marks` meets its contract: the first n marks are filled with 0.
use Rattle.numbers.proofs.Cleared.{cleared_front_filled}
use Rattle.numbers.proofs.clear_marks.Goals as goal

pub returns : goal.returns
returns c = cleared_front_filled _ _ c.requires (c.fill.ensures.after (λ y e. e))
