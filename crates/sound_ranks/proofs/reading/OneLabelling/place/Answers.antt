-- `OneLabelling::place` meets its contract: the places by rank hold it.
use Rattle.sound_ranks.proofs.Read.{place_was}
use Rattle.sound_ranks.proofs.reading.OneLabelling.place.Goals as goal

pub returns : goal.returns
returns g c = (place_was c.args.self.now.held c.requires c.num.ensures.0, c.num.ensures.1)
