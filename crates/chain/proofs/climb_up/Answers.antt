-- `chain::climb_up` meets its contract: the groups of sound bytes are fit for the climb, and they are those of the index.
use Rattle.reach.proofs.Fitted.{ranks_spots}
use Rattle.chain.proofs.Fitted.{climbed_is}
use Rattle.sound_places.proofs.Images.{sound_bytes}
use Rattle.chain.proofs.climb_up.Goals as goal

pub climb-requires : goal.climb-requires
climb-requires c = ranks_spots (sound_bytes c.args.index.now) c.ranks_of.ensures _ c.requires

pub returns : goal.returns
returns c = climbed_is (sound_bytes c.args.index.now) c.ranks_of.ensures _ c.climb.ensures
