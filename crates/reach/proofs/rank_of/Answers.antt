-- `reach::rank_of` meets its contract: the place of u's group is found, and its e in the first labelling is its rank.
use Rattle.stored.proofs.Contents.{labels_only}
use Rattle.reach.proofs.Fitted.{rank_is}
use Rattle.sound_places.proofs.Images.{sound_bytes}
use Rattle.reach.proofs.rank_of.Goals as goal

pub returns : goal.returns
returns c =
    let s = c.args.index.now in
    rank_is (sound_bytes s) (labels_only s.image.laid c.labels.ensures) _ c.of-tuples.ensures.bytes c.place.ensures.1 _ c.place.ensures.0 (rw (c.of-tuples.ensures.same.0, c.of-tuples.ensures.same.1.0) at c.e.ensures.0)
