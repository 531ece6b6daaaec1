-- `ask_all::ask_lent` meets its contract: numbers of 16 bits are those of form 1, whose vertices have room in the array; beside others the needed words suffice.
use native.Mathlib.Omega.{arith}
use Rattle.numbers.proofs.Regions.{kept_wider}
use Rattle.ask_all.proofs.Refusals.{words_fit}
use Rattle.ask_all.proofs.ask_lent.Goals as goal

pub returns : goal.returns
returns c =
    let e = c.ask_sound-2.ensures in record {
      marks_after = e.marks_after;
      answers_after = e.answers_after;
      kept = kept_wider 0 _ (omega arith) (omega (arith, words_fit c.args.index.now.image.layout c.if-index-eq2.false)) e.kept;
    }
