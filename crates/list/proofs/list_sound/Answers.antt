-- `list::list_sound` meets its contract: the marked vertices are those downstream; they are counted, and written where there is room.
use Prim.Native.Nat.{◌≤◌}
use native.Mathlib.Omega.{arith}
use Rattle.numbers.specs.Bounds.{vertex_bound}
use Rattle.list.proofs.Found.{names_spots, marks_again, count_few, list_short, list_found}
use Rattle.sound_places.proofs.Images.{sound_bytes}
use Rattle.list.proofs.list_sound.Goals as goal
use Rattle.list.proofs.list_sound.Goals.{After-count_listed-count}

-- no more are listed than there are vertices
few : (c : After-count_listed-count) → c.count_listed-count.result ≤ vertex_bound
few c =
    count_few (sound_bytes c.args.index.now) c.names.ensures c.requires.n_in_bounds.1 _ c.requires.n_in_bounds.0 c.mark_reached.ensures c.in_own_list.ensures
    c.count_listed-count.ensures

pub invariant_of-listing : goal.invariant_of-listing
invariant_of-listing c = record {
  spots = names_spots (sound_bytes c.args.index.now) c.names.ensures c.requires.n_in_bounds.1 _ c.requires.n_in_bounds.0
      c.mark_reached.ensures;
}

pub overflow_cast-result : goal.overflow_cast-result
overflow_cast-result c = omega (arith, few (goal.at.overflow_cast-result c).After-count_listed-count)

pub returns-then-out-count : goal.returns-then-out-count
returns-then-out-count c =
    let reached = c.mark_reached.ensures in
    record {
      fills = list_short (sound_bytes c.args.index.now) c.names.ensures c.requires.n_in_bounds.1 _ c.requires.n_in_bounds.0 reached c.in_own_list.ensures
          c.count_listed-count.ensures _ c.if-out-count.true;
      marks_unchanged = marks_again (sound_bytes c.args.index.now) c.names.ensures c.requires.n_in_bounds.1 _ c.requires.n_in_bounds.0 reached c.requires.marks_value
          c.clear_marks.ensures;
    }

pub overflow_cast-result-2 : goal.overflow_cast-result-2
overflow_cast-result-2 c = omega (arith, few (goal.at.overflow_cast-result-2 c).After-count_listed-count)

pub returns : goal.returns
returns c =
    let reached = c.mark_reached.ensures in record {
      fills = list_found (sound_bytes c.args.index.now) c.names.ensures c.requires.n_in_bounds.1 _ c.requires.n_in_bounds.0 reached c.in_own_list.ensures
          c.count_listed-count.ensures _ c.if-out-count.false
          c.write_listed.ensures;
      marks_unchanged = marks_again (sound_bytes c.args.index.now) c.names.ensures c.requires.n_in_bounds.1 _ c.requires.n_in_bounds.0 reached c.requires.marks_value
          c.clear_marks-2.ensures;
    }
