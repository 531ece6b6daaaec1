-- `rules_states::mark_affected` meets its contract: the changed vertices' groups are marked, the sweep goes from the highest rank, and each vertex has the mark of
-- its group.
use native.Mathlib.Omega.{arith}
use Rattle.rules_states.proofs.Affected.{names_named, affected_are}
use Rattle.sound_places.proofs.Images.{sound_bytes}
use Rattle.rules_states.proofs.mark_affected.Goals as goal

pub mark_vertices-requires : goal.mark_vertices-requires
mark_vertices-requires c = names_named (sound_bytes c.args.index.now) c.names.ensures _ (omega (arith, c.requires.n_in_bounds.0))

pub returns : goal.returns
returns c =
    affected_are (sound_bytes c.args.index.now) c.names.ensures _ c.requires.n_in_bounds.1 _ c.requires.n_in_bounds.0 c.requires.marks_value c.mark_changed.ensures
    c.sweep_down.ensures
    c.mark_vertices.ensures
