-- `Numbers::get` meets its contract: what is read is number i of those held.
use Rattle.stored.proofs.Read.{was_read}
use Rattle.stored.proofs.reading.Numbers.get.Goals as goal

pub returns : goal.returns
returns c = (was_read c.args.self.now.held c.requires c.num.ensures.0, c.num.ensures.1)
