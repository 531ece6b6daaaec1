-- `exceptions::build_sound` meets its contract: the entries are counted, which gives the bytes needed; with room for them the lists are written.
use mathlib.Core.Path.{refl, ◌∙◌}
use Prim.Native.Nat.{◌*◌, ◌≤◌}
use native.Mathlib.Omega.{arith}
use Rattle.lineage.specs.Calls.{index_in}
use Rattle.exceptions_marks.proofs.Fitted.{groups_many}
use Rattle.exceptions.proofs.Filled.{entries_most, build_short, build_done}
use Rattle.sound_places.proofs.Images.{sound_bytes}
use Rattle.exceptions.proofs.build_sound.Goals as goal
use Rattle.exceptions.proofs.build_sound.Goals.{After-count_exceptions-entries}

groups_few : (a : After-count_exceptions-entries) → a.args.index.now.image.layout.k ≤ 4096
groups_few a = omega (arith, a.requires.n_bound, a.args.index.now.image.laid.groups)

entries_few : (a : After-count_exceptions-entries) → a.count_exceptions-entries.result ≤ 4096 * 4096
entries_few a = omega (arith, a.count_exceptions-entries.ensures.value, entries_most (index_in a.args.index.now.image.bytes.now) (groups_many (sound_bytes a.args.index.now)) (groups_few a))

pub overflow_add-needed-2 : goal.overflow_add-needed-2
overflow_add-needed-2 c = omega (arith, groups_few (goal.at.overflow_add-needed-2 c).After-count_exceptions-entries, entries_few (goal.at.overflow_add-needed-2 c).After-count_exceptions-entries)

pub overflow_mul-needed : goal.overflow_mul-needed
overflow_mul-needed c = omega (arith, groups_few (goal.at.overflow_mul-needed c).After-count_exceptions-entries, entries_few (goal.at.overflow_mul-needed c).After-count_exceptions-entries)

pub overflow_cast-total : goal.overflow_cast-total
overflow_cast-total c = omega (arith, groups_few (goal.at.overflow_cast-total c).After-count_exceptions-entries, entries_few (goal.at.overflow_cast-total c).After-count_exceptions-entries)

pub returns-then-out-needed : goal.returns-then-out-needed
returns-then-out-needed c =
    record {
      fills = build_short (index_in c.args.index.now.image.bytes.now) (groups_many (sound_bytes c.args.index.now)) (groups_few (goal.at.returns-then-out-needed c).After-count_exceptions-entries) c.count_exceptions-entries.ensures.value refl c.if-out-needed.true;
      marks_unchanged = c.count_exceptions-entries.ensures.marks_unchanged;
    }

pub returns : goal.returns
returns c =
    record {
      fills = build_done (index_in c.args.index.now.image.bytes.now) (groups_many (sound_bytes c.args.index.now)) (groups_few (goal.at.returns c).After-count_exceptions-entries) c.count_exceptions-entries.ensures.value refl c.if-out-needed.false
          c.write_exceptions.ensures.out_after;
      marks_unchanged = c.write_exceptions.ensures.marks_unchanged ∙ c.count_exceptions-entries.ensures.marks_unchanged;
    }
