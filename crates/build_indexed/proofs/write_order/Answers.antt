-- `build_indexed::write_order` meets its contract: the labelling that is left in its window is the one under order j, and it is written from there.
use mathlib.Core.Path.{refl}
use native.Mathlib.Omega.{arith}
use Rattle.build_indexed.proofs.Orders.{label_fits, order_labelled, slices, labelling_fits, order_written}
use Rattle.build_indexed.proofs.write_order.Goals as goal

pub label-requires : goal.label-requires
label-requires c = label_fits c.requires.ready c.children_from.ensures c.labels_from-base.ensures c.walk_from-walk.ensures c.args.j c.requires.j_lt_d.0

pub write_labelling-requires : goal.write_labelling-requires
write_labelling-requires c =
    let lies = slices c.requires.ready c.children_from.ensures c.labels_from-base.ensures c.walk_from-walk.ensures c.args.j c.label.ensures refl
    (omega arith) (omega arith) (omega arith) in
    labelling_fits c.requires.ready c.children_from.ensures c.labels_from-base.ensures c.walk_from-walk.ensures c.args.j c.label.ensures
    lies c.args.out.now c.args.at c.requires.j_lt_d.1

pub returns : goal.returns
returns c =
    let lies = slices c.requires.ready c.children_from.ensures c.labels_from-base.ensures c.walk_from-walk.ensures c.args.j c.label.ensures refl
    (omega arith) (omega arith) (omega arith) in
    record {
      order_labelled = order_labelled c.requires.ready c.children_from.ensures c.labels_from-base.ensures c.walk_from-walk.ensures c.args.j c.label.ensures;
      out_after = order_written c.requires.ready c.children_from.ensures c.labels_from-base.ensures c.walk_from-walk.ensures c.args.j c.label.ensures
          lies c.args.out.now _ c.args.at c.write_labelling.ensures;
    }
