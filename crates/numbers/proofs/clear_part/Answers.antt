-- `numbers::clear_part` meets its contract: the n words from word at on are filled with 0.
use native.Mathlib.Omega.{arith}
use Rattle.numbers.proofs.Regions.{filled_mid}
use Rattle.numbers.proofs.clear_part.Goals as goal

pub returns : goal.returns
returns c = let both = filled_mid c.args.words.now c.args.at _ c.args.n c.requires (omega arith) (c.fill.ensures.after (λ y e. e)) in record { kept = both.0; n_after = both.1 }
