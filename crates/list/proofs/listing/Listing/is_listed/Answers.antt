-- `Listing::is_listed` meets its contract: the two are one vertex, or the mark at the name that was read tells.
use Rattle.list.proofs.Writing.{own_listed, mark_listed}
use Rattle.list.proofs.listing.Listing.is_listed.Goals as goal

pub returns-then-self-v : goal.returns-then-self-v
returns-then-self-v c = own_listed _ _ _ c.if-self-v.true

pub returns : goal.returns
returns c = mark_listed _ _ _ c.if-self-v.false c.get.ensures.0
