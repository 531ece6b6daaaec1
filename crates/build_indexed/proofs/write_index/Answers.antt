-- `build_indexed::write_index` meets its contract: when all labellings are written, the last is still there, so the levels can be found by its ranks; then all that stands before the
-- labels is written from its regions.
use mathlib.Core.Path.{refl}
use native.Mathlib.Omega.{arith}
use Rattle.build_indexed.proofs.Written.{levels_there, index_kept, slices, groups_fit, index_written}
use Rattle.build_indexed.proofs.write_index.Goals as goal

pub levels-requires : goal.levels-requires
levels-requires c =
    levels_there c.requires.ready c.children_from-children.ensures c.labels_from-base.ensures c.walk_from-walk.ensures c.write_labels.ensures.order_labelled

pub write_groups-requires : goal.write_groups-requires
write_groups-requires c =
    let lie = slices c.requires.ready c.children_from-children.ensures c.labels_from-base.ensures c.walk_from-walk.ensures c.write_labels.ensures.order_labelled
    c.levels.ensures.kept c.levels.ensures.k_after refl refl (omega arith) refl in
    groups_fit c.requires.ready c.children_from-children.ensures c.labels_from-base.ensures c.walk_from-walk.ensures c.write_labels.ensures.order_labelled
    c.levels.ensures.kept c.levels.ensures.k_after lie c.args.form c.requires.form_bound (omega (arith, c.write_labels.auto.out, c.requires.total_in_bounds))

pub returns : goal.returns
returns c =
    let lie = slices c.requires.ready c.children_from-children.ensures c.labels_from-base.ensures c.walk_from-walk.ensures c.write_labels.ensures.order_labelled
    c.levels.ensures.kept c.levels.ensures.k_after refl refl (omega arith) refl in
    record {
      out_after = index_written c.requires.ready c.children_from-children.ensures c.labels_from-base.ensures c.walk_from-walk.ensures
          c.write_labels.ensures.order_labelled c.levels.ensures.kept c.levels.ensures.k_after lie c.args.form c.args.out.now _ _ c.requires.total_in_bounds
          c.write_labels.ensures.out_after c.write_groups.ensures;
      kept = index_kept c.requires.ready c.children_from-children.ensures c.labels_from-base.ensures c.walk_from-walk.ensures c.write_labels.ensures.order_labelled
          c.levels.ensures.kept c.levels.ensures.k_after;
    }
