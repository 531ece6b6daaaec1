-- `build_children::children` meets its contract. Each pass finds what the passes before it laid out: the two areas and the words between them lie apart, so
-- none touches what the next one reads.
use native.Mathlib.Omega.{arith}
use Rattle.build_children.proofs.Window.{edges_fit, strip_fits, turn_fits, found}
use Rattle.build_children.proofs.children.Goals as goal

pub rows-requires : goal.rows-requires
rows-requires c = edges_fit c.requires

pub strip-c-requires : goal.strip-c-requires
strip-c-requires c = strip_fits c.requires c.rows.ensures.kept c.rows.ensures.rows_at c.clear_part.ensures.kept c.clear_part.ensures.n_after

pub turn-requires : goal.turn-requires
turn-requires c =
    turn_fits c.requires c.rows.ensures.kept c.rows.ensures.rows_at c.clear_part.ensures.kept c.clear_part.ensures.n_after
    c.strip-c.ensures.kept c.strip-c.ensures.upper_bound c.strip-c.ensures.rows_at c.count_up.ensures.kept c.count_up.ensures.n_after

pub returns : goal.returns
returns c =
    found c.requires c.rows.ensures.kept c.rows.ensures.rows_at c.clear_part.ensures.kept c.clear_part.ensures.n_after c.strip-c.ensures.kept
    c.strip-c.ensures.upper_bound c.strip-c.ensures.rows_at c.count_up.ensures.kept c.count_up.ensures.n_after c.turn.ensures.kept c.turn.ensures.rows_at
