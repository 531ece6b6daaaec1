-- `exceptions_marks::mark_contained` meets its contract, by the invariant beside this file.
use mathlib.Core.Path.{◌≡◌}
use Prim.Native.Nat.{◌+◌, ◌-◌, ◌≤◌, ◌<◌, suc}
use native.Mathlib.Omega.{arith}
use lib.Dec.{eqb}
use lib.ListN.{length, get_or}
use Rattle.lineage.specs.Calls.{index_in}
use Rattle.stored.specs.Sections.{Six}
use Rattle.stored.proofs.Contents.{stretch_of}
use Rattle.reach.specs.Marks.{first_labels}
use Rattle.reach.proofs.Fitted.{index_sound}
use Rattle.exceptions_marks.proofs.Fitted.{with_labels_lem, first_in, places_many, room_there, test_was, name_read, name_low, name_was, s_was, s_least, e_was, ranks_rise, e_low, place_read, place_low, place_was}
use Rattle.exceptions_marks.proofs.Looking.{looking_none, looking_over, looking_more, looking_count, looking_all}
use Rattle.sound_places.proofs.Images.{sound_bytes}
use Rattle.exceptions_marks.proofs.mark_contained.Goals as goal
use Rattle.exceptions_marks.proofs.mark_contained.Goals.{After-by_rank-places, After-e, After-loop-i, After-num-name, After-num-y, After-s-from, In-loop-i, then-is_exception, else-is_exception}

given : (a : After-by_rank-places) → let L = a.args.index.now.image.laid in
    Six a.args.index.now.image.bytes.now a.args.index.now.image.layout (stretch_of L 0) a.groups-groups.result.now (stretch_of L 2) (stretch_of L 3) (stretch_of L 4)
    a.labels.result.now
given a = with_labels_lem a.args.index.now.image.laid a.groups-groups.ensures a.labels.ensures

some_rank : (a : After-s-from) → 1 ≤ a.s-from.result
some_rank a =
    let O = sound_bytes a.args.index.now in
    s_least O (with_labels_lem O.laid a.groups-groups.ensures a.labels.ensures) a.of-tuples.ensures.bytes a.requires.n_in_bounds.1
    (rw (a.of-tuples.ensures.same.0, a.of-tuples.ensures.same.1.0) at a.s-from.ensures.0)

rise : (a : After-e) → a.s-from.result ≤ a.e.result
rise a =
    let O = sound_bytes a.args.index.now in
    ranks_rise O (with_labels_lem O.laid a.groups-groups.ensures a.labels.ensures) a.of-tuples.ensures.bytes a.requires.n_in_bounds.1
    (rw (a.of-tuples.ensures.same.0, a.of-tuples.ensures.same.1.0) at a.s-from.ensures.0)
    (rw (a.of-tuples.ensures.same.0, a.of-tuples.ensures.same.1.0) at a.e.ensures.0)

-- the rank at hand
in_rank : (c : In-loop-i) → c.s-from.result - 1 + c.loop-i.i < c.args.index.now.image.layout.k
in_rank c =
    let O = sound_bytes c.args.index.now in
    let G = with_labels_lem O.laid c.groups-groups.ensures c.labels.ensures in
    let T = c.of-tuples.ensures.bytes in
    let b = c.requires.n_in_bounds.1 in
    omega (
      arith,
      c.loop-i-test.true,
      ranks_rise O G T b
          (rw (c.of-tuples.ensures.same.0, c.of-tuples.ensures.same.1.0) at c.s-from.ensures.0) (rw (c.of-tuples.ensures.same.0, c.of-tuples.ensures.same.1.0) at c.e.ensures.0),
      e_low O G T b (rw (c.of-tuples.ensures.same.0, c.of-tuples.ensures.same.1.0) at c.e.ensures.0),
      s_least O G T b (rw (c.of-tuples.ensures.same.0, c.of-tuples.ensures.same.1.0) at c.s-from.ensures.0),
    )

-- its place
low : (y : After-num-y) → y.s-from.result - 1 + y.loop-i.i < y.args.index.now.image.layout.k → y.num-y.result < y.args.index.now.image.layout.k
low y h =
    let O = sound_bytes y.args.index.now in
    place_low O (with_labels_lem O.laid y.groups-groups.ensures y.labels.ensures) y.by_rank-places.ensures h y.num-y.ensures.0

-- its name has a mark
named_low : (n : After-num-name) → n.num-y.result < n.args.index.now.image.layout.k → n.num-name.result < length n.loop-i.marks
named_low n b =
    let O = sound_bytes n.args.index.now in
    name_low O (with_labels_lem O.laid n.groups-groups.ensures n.labels.ensures) b n.num-name.ensures.0
    (omega (arith, n.requires.n_in_bounds.0, n.loop-i.invariant.1.long))

-- all ranks are passed
starts : (a : After-e) → let s = a.args in
    suc (a.s-from.result - 1) ≡ get_or (first_labels (index_in s.index.now.image.bytes.now).labels).s s.x 0
starts a =
    let O = sound_bytes a.args.index.now in
    let G = with_labels_lem O.laid a.groups-groups.ensures a.labels.ensures in
    let T = a.of-tuples.ensures.bytes in
    let b = a.requires.n_in_bounds.1 in
    omega (
      arith,
      s_was O G T b
          (rw (a.of-tuples.ensures.same.0, a.of-tuples.ensures.same.1.0) at a.s-from.ensures.0),
      s_least O G T b (rw (a.of-tuples.ensures.same.0, a.of-tuples.ensures.same.1.0) at a.s-from.ensures.0),
    )

ends : (c : After-loop-i) → let s = c.args in
    c.s-from.result - 1 + c.loop-i.i ≡ get_or (first_labels (index_in s.index.now.image.bytes.now).labels).e s.x 0
ends c =
    let O = sound_bytes c.args.index.now in
    let G = with_labels_lem O.laid c.groups-groups.ensures c.labels.ensures in
    let T = c.of-tuples.ensures.bytes in
    let b = c.requires.n_in_bounds.1 in
    omega (
      arith,
      e_was O G T b (rw (c.of-tuples.ensures.same.0, c.of-tuples.ensures.same.1.0) at c.e.ensures.0),
      ranks_rise O G T b
          (rw (c.of-tuples.ensures.same.0, c.of-tuples.ensures.same.1.0) at c.s-from.ensures.0) (rw (c.of-tuples.ensures.same.0, c.of-tuples.ensures.same.1.0) at c.e.ensures.0),
      s_least O G T b (rw (c.of-tuples.ensures.same.0, c.of-tuples.ensures.same.1.0) at c.s-from.ensures.0),
      c.loop-i.auto.i-end,
      c.loop-i-test.false,
    )

pub overflow_sub-from : goal.overflow_sub-from
overflow_sub-from c = some_rank (goal.at.overflow_sub-from c).After-s-from

pub overflow_sub-ranks : goal.overflow_sub-ranks
overflow_sub-ranks c = omega (arith, rise (goal.at.overflow_sub-ranks c).After-e, some_rank (goal.at.overflow_sub-ranks c).After-s-from)

pub loop-i-init : goal.loop-i-init
loop-i-init c = (omega arith, looking_none _ _ _ _ _)

pub num-y-requires : goal.num-y-requires
num-y-requires c = place_read (sound_bytes c.args.index.now) (given (goal.at.num-y-requires c).After-by_rank-places) c.by_rank-places.ensures (in_rank (goal.at.num-y-requires c).In-loop-i)

pub num-name-requires : goal.num-name-requires
num-name-requires c = name_read (sound_bytes c.args.index.now) (given (goal.at.num-name-requires c).After-by_rank-places) (low (goal.at.num-name-requires c).After-num-y (in_rank (goal.at.num-name-requires c).In-loop-i))

pub bounds-marks-name : goal.bounds-marks-name
bounds-marks-name c = named_low (goal.at.bounds-marks-name c).After-num-name (low (goal.at.bounds-marks-name c).After-num-y (in_rank (goal.at.bounds-marks-name c).In-loop-i))

pub is_exception-requires : goal.is_exception-requires
is_exception-requires c =
    (c.requires.n_in_bounds.1, low (goal.at.is_exception-requires c).After-num-y (in_rank (goal.at.is_exception-requires c).In-loop-i))

pub bounds-marks-name-then-is_exception : goal.bounds-marks-name-then-is_exception
bounds-marks-name-then-is_exception c = named_low (goal.at.bounds-marks-name-then-is_exception c).After-num-name (low (goal.at.bounds-marks-name-then-is_exception c).After-num-y (in_rank (goal.at.bounds-marks-name-then-is_exception c).In-loop-i))

pub loop-i-preserved : goal.loop-i-preserved
loop-i-preserved c =
    let O = sound_bytes c.args.index.now in
    let S = index_sound O in
    let m = first_in O in
    let room = room_there O c.requires.n_in_bounds.0 in
    let K = c.loop-i.invariant.1 in
    let h = in_rank (goal.at.loop-i-preserved c).In-loop-i in
    let is = place_was O (given (goal.at.loop-i-preserved c).After-by_rank-places) c.by_rank-places.ensures h c.num-y.ensures.0 in
    let named = name_was O (given (goal.at.loop-i-preserved c).After-by_rank-places) (low (goal.at.loop-i-preserved c).After-num-y (in_rank (goal.at.loop-i-preserved c).In-loop-i)) c.num-name.ensures.0 in
    let test = test_was O (given (goal.at.loop-i-preserved c).After-by_rank-places) (eqb (get_or c.loop-i.marks c.num-name.result 0) 1) _ _ c.is_exception.ensures in
    elim c.if-is_exception.branch [
      | then-is_exception w ↦
          rw (w.marks-is, w.count-is)
          (omega (arith, c.loop-i.invariant.0), looking_more S m c.requires.reaching room K (omega (arith, h, places_many O)) is named test w.if-is_exception.true)
      | else-is_exception w ↦
          rw (w.marks-is, w.count-is)
          (omega (arith, c.loop-i.invariant.0), looking_over S m c.requires.reaching room K (omega (arith, h, places_many O)) is named test w.if-is_exception.false)
    ]

pub returns-clause-value : goal.returns-clause-value
returns-clause-value c =
    let O = sound_bytes c.args.index.now in
    looking_count (index_sound O) (first_in O) c.requires.reaching (room_there O c.requires.n_in_bounds.0) c.loop-i.invariant.1 (omega (arith, c.requires.n_in_bounds.1, places_many O)) (starts (goal.at.returns-clause-value c).After-e) (ends (goal.at.returns-clause-value c).After-loop-i)

pub returns-clause-excepting : goal.returns-clause-excepting
returns-clause-excepting c =
    let O = sound_bytes c.args.index.now in
    looking_all (index_sound O) (first_in O) c.requires.reaching (room_there O c.requires.n_in_bounds.0) c.loop-i.invariant.1 (omega (arith, c.requires.n_in_bounds.1, places_many O)) (starts (goal.at.returns-clause-excepting c).After-e) (ends (goal.at.returns-clause-excepting c).After-loop-i)
