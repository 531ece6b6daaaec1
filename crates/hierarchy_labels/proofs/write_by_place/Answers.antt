-- `hierarchy_labels::write_by_place` meets its contract, by the invariant beside this file.
use mathlib.Core.Path.{refl, ap, ◌∙◌}
use Prim.Native.Nat.{◌+◌, ◌*◌}
use native.Mathlib.Omega.{arith}
use Rattle.lineage.specs.Numbers.{written}
use Rattle.numbers.specs.Put.{put}
use Rattle.build_writing.proofs.Behind.{blocks_none, blocks_more}
use Rattle.build_writing.proofs.Labellings.{label_long}
use Rattle.hierarchy_labels.specs.Turned.{label_from}
use Rattle.hierarchy_labels.proofs.Written.{next_room, label_was}
use Rattle.hierarchy_labels.proofs.write_by_place.Goals as goal

pub loop-p-init : goal.loop-p-init
loop-p-init c = let a = c.args in blocks_none a.tuples.now.width a.at (label_from a.tuples.now.width a.tuples.now.z a.y a.tuples.now.bytes.now) a.out.now

pub overflow_mul-w : goal.overflow_mul-w
overflow_mul-w c = omega (arith, next_room c.requires c.loop-p.p c.loop-p-test.true)

pub write_label-requires : goal.write_label-requires
write_label-requires c =
    let B = c.requires in
    record {
      width = c.args.tuples.now.held.held.width;
      stride = B.stride;
      z_in_bounds = omega (arith, next_room B c.loop-p.p c.loop-p-test.true, c.loop-p.auto.out);
    }

pub loop-p-preserved : goal.loop-p-preserved
loop-p-preserved c =
    let a = c.args in
    let t = a.tuples.now in
    let q = a.at + t.width * (a.y * c.loop-p.p) in
    c.write_label.ensures
    ∙ ap (λ x. put c.loop-p.out q (written t.width x)) (label_was t.width t.z a.y t.bytes.now c.loop-p.p c.s-s.ensures.0 c.m-m.ensures.0 c.e-e.ensures.0)
    ∙ blocks_more t.width a.at (label_from t.width t.z a.y t.bytes.now) a.out.now a.y c.loop-p.out q c.loop-p.p (λ j h. label_long c.requires.stride _ _ _) c.loop-p.invariant refl
    (omega (arith, next_room c.requires c.loop-p.p c.loop-p-test.true))
