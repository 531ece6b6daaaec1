-- `build_writing::write_labels` meets its contract, by the invariant beside this file.
use mathlib.Core.Path.{◌≡◌, ap, ◌∙◌}
use Prim.Native.Nat.{ℕ, ◌+◌, ◌*◌, ◌≤◌}
use native.Mathlib.Omega.{arith}
use lib.ListN.{length}
use Rattle.lineage.specs.Stored.{label_of}
use Rattle.build_writing.specs.Words.{labelling_in_words}
use Rattle.build_writing.proofs.Behind.{blocks_put, blocks_none, blocks_more}
use Rattle.build_writing.proofs.Labellings.{label_long, labels_room}
use Rattle.build_writing.proofs.write_labels.Goals as goal
use Rattle.build_writing.proofs.write_labels.Goals.{In-loop-i}

-- where the next numbers go
here : (c : In-loop-i) → let a = c.args in a.at + c.bytes_of-step.result * c.loop-i.i ≡ a.at + a.w * (a.z * c.loop-i.i)
here c = omega (arith, ap (λ (s : ℕ). s * c.loop-i.i) c.bytes_of-step.ensures.0)

-- and that they fit
within : (c : In-loop-i) → let a = c.args in a.at + a.w * (a.z * c.loop-i.i) + a.w * a.z ≤ length a.out.now
within c = labels_room c.requires c.loop-i.i c.loop-i-test.true

pub bytes_of-step-requires : goal.bytes_of-step-requires
bytes_of-step-requires c = record { width = c.requires.width; count_bound = omega (arith, c.requires.stride.high) }

pub loop-i-init : goal.loop-i-init
loop-i-init c = let a = c.args in blocks_none a.w a.at (label_of a.z (labelling_in_words a.words.now)) a.out.now

pub write_label-requires : goal.write_label-requires
write_label-requires c =
    let fit = c.requires in
    record {
      width = fit.width;
      stride = fit.stride;
      z_in_bounds = let i = (goal.at.write_label-requires c).In-loop-i in omega (arith, within i, here i);
    }

pub loop-i-preserved : goal.loop-i-preserved
loop-i-preserved c =
    let a = c.args in
    let i = (goal.at.loop-i-preserved c).In-loop-i in
    c.write_label.ensures
    ∙ blocks_more a.w a.at (label_of a.z (labelling_in_words a.words.now)) a.out.now a.z c.loop-i.out _ c.loop-i.i
    (λ j h. label_long c.requires.stride _ _ _)
    c.loop-i.invariant
    (here i)
    (omega (arith, within i, here i))

pub returns : goal.returns
returns c =
    let a = c.args in
    c.loop-i.invariant
    ∙ ap (blocks_put a.w a.at (label_of a.z (labelling_in_words a.words.now)) a.out.now) (let e : c.loop-i.i ≡ length a.words.now.s.now = omega arith in e)
