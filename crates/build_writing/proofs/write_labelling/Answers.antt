-- `build_writing::write_labelling` meets its contract: the groups' numbers, and behind them the places by rank, are the labelling's numbers.
use mathlib.Core.Path.{ap}
use Prim.Native.Nat.{◌+◌, ◌*◌, ◌≤◌}
use native.Mathlib.Nat.{mul-le-mul_right}
use native.Mathlib.Omega.{arith}
use lib.ListN.{length}
use Rattle.build_writing.specs.Words.{labelling_in_words}
use Rattle.build_writing.proofs.Labellings.{labelling_put}
use Rattle.build_writing.proofs.write_labelling.Goals as goal
use Rattle.build_writing.proofs.write_labelling.Goals.{Start}

-- there are no more numbers by place than three for each group
few : (s : Start) → s.args.z * length s.args.words.now.s.now ≤ 3 * length s.args.words.now.s.now
few s = mul-le-mul_right (length s.args.words.now.s.now) s.requires.stride.high

pub bytes_of-requires : goal.bytes_of-requires
bytes_of-requires c = record { width = c.requires.width; count_bound = omega (arith, few (goal.at.bytes_of-requires c).Start, c.requires.few) }

pub returns : goal.returns
returns c =
    let a = c.args in
    labelling_put a.w a.at a.z (length a.words.now.s.now) _ (labelling_in_words a.words.now) a.out.now _ _ c.requires.stride c.requires.room
    (ap (λ x. a.at + x) c.bytes_of.ensures.0)
    c.write_labels.ensures
    c.write_words.ensures
