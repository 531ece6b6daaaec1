-- `hierarchy_labels::write_turned` meets its contract: the labels by place, and behind them the places by rank, are the labelling's numbers.
use mathlib.Core.Path.{ap}
use Prim.Native.Nat.{◌+◌}
use Rattle.hierarchy_labels.proofs.Written.{turned_put}
use Rattle.hierarchy_labels.proofs.write_turned.Goals as goal

pub returns : goal.returns
returns c =
    let a = c.args in
    let m = a.labels.now in
    turned_put m.width m.z a.y m.k c.of-tuples.ensures.bytes c.by_rank-places.ensures a.at _ a.out.now _ _ c.requires.stride c.requires.room
    (ap (λ x. a.at + x) c.bytes_of.ensures.0) (rw (c.of-tuples.ensures.same.0, c.of-tuples.ensures.same.1.0, c.of-tuples.ensures.same.1.1) at c.write_by_place.ensures) c.copy_numbers.ensures
