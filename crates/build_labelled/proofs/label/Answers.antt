-- `build_labelled::label` meets its contract. The rows and roots that the order gives make the traversal the one that defines the labelling, and the labels that it leaves are the
-- labelling.
use Rattle.build_labelled.proofs.Walked.{order_fits, traverse_fits, labelled}
use Rattle.build_labelled.proofs.label.Goals as goal

pub order_rows-q-requires : goal.order_rows-q-requires
order_rows-q-requires c = order_fits c.requires

pub traverse-requires : goal.traverse-requires
traverse-requires c = traverse_fits c.requires c.order_rows-q.ensures

pub returns : goal.returns
returns c = labelled c.requires c.order_rows-q.ensures c.traverse.ensures.kept c.traverse.ensures.traversed
