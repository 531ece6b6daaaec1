-- `reach::mark_reached` meets its contract: of marks that are 0 below n the group's own is set, and the sweep goes from its rank.
use native.Mathlib.Omega.{arith}
use Rattle.reach.proofs.Fitted.{rank_low, reach_is}
use Rattle.sound_places.proofs.Images.{sound_bytes}
use Rattle.reach.proofs.mark_reached.Goals as goal

pub sweep_down-requires : goal.sweep_down-requires
sweep_down-requires c =
    (omega (arith, c.requires.n_in_bounds.0, c.mark_group.auto), omega (arith, rank_low (sound_bytes c.args.index.now) c.requires.n_in_bounds.1, c.rank_of-top.ensures))

pub returns : goal.returns
returns c = reach_is (sound_bytes c.args.index.now) c.requires.n_in_bounds.1 _ c.requires.marks_value c.mark_group.ensures c.rank_of-top.ensures c.sweep_down.ensures
