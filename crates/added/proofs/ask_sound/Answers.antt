-- `added::ask_sound` meets its contract: a count of up to 256 is within both lists, and the two parts are of one length.
use Rattle.added.proofs.Refusals.{sound_over}
use Rattle.added.proofs.ask_sound.Goals as goal

pub returns-clause-result_value : goal.returns-clause-result_value
returns-clause-result_value c = sound_over c.args.index.now.image.layout.n c.args.state _ c.if-count-gt-MOST_ADDED.false c.ask_over.ensures.result_value
