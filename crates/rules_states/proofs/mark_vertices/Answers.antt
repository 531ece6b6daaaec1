-- `rules_states::mark_vertices` meets its contract, by the invariant beside this file.
use native.Mathlib.Omega.{arith}
use lib.ListN.{length}
use Prim.Native.Nat.{◌<◌}
use Rattle.numbers.proofs.Numbers.{numbers_long}
use Rattle.stored.specs.Reading.{numbers_of}
use Rattle.rules_states.proofs.Vertices.{marks_none, marks_more, name_marked, vertices_marked}
use Rattle.rules_states.proofs.mark_vertices.Goals as goal
use Rattle.rules_states.proofs.mark_vertices.Goals.{In-loop-v}

-- a vertex passed has a name
low : (c : In-loop-v) → c.loop-v.v < length (numbers_of c.args.names.now)
low c = let s = c.args.names.now in omega (arith, numbers_long s.width s.bytes.now s.len)

pub loop-v-init : goal.loop-v-init
loop-v-init c = marks_none _ _

pub bounds-marks-name : goal.bounds-marks-name
bounds-marks-name c =
    let h = low (goal.at.bounds-marks-name c).In-loop-v in omega (arith, h, c.requires.room, c.requires.name_low _ h, c.get-name.ensures.0, c.loop-v.auto.marks)

pub bounds-marks-v : goal.bounds-marks-v
bounds-marks-v c = omega (arith, low (goal.at.bounds-marks-v c).In-loop-v, c.requires.room, c.loop-v.auto.marks)

pub loop-v-preserved : goal.loop-v-preserved
loop-v-preserved c =
    let h = low (goal.at.loop-v-preserved c).In-loop-v in
    marks_more _ _ _ (omega (arith, h, c.requires.room)) c.loop-v.invariant (name_marked c.args.marks.now c.requires _ h c.get-name.ensures.0 c.loop-v.invariant)

pub returns : goal.returns
returns c = vertices_marked c.args.names.now c.args.marks.now (omega arith) c.loop-v.invariant
