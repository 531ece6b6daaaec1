-- `reach::sweep_down` meets its contract: the groups of sound bytes are fit for the sweep, and they are those of the index.
use native.Mathlib.Omega.{arith}
use Rattle.reach.proofs.Fitted.{ranks_spots, swept_is}
use Rattle.sound_places.proofs.Images.{sound_bytes}
use Rattle.reach.proofs.sweep_down.Goals as goal

pub sweep-requires : goal.sweep-requires
sweep-requires c =
    record {
      spots = ranks_spots (sound_bytes c.args.index.now) c.ranks_of.ensures _ c.requires.0;
      top_le_k = omega (arith, c.ranks_of.ensures.many);
    }

pub returns : goal.returns
returns c = swept_is (sound_bytes c.args.index.now) c.ranks_of.ensures _ _ c.sweep.ensures
